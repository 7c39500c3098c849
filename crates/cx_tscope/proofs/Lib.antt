pub mod Scopes
pub mod Faults
