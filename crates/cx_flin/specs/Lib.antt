pub mod Names
pub mod Terms
pub mod Scopes
