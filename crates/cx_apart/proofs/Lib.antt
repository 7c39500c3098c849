pub mod Places
pub mod Blocks
pub mod Truths
pub mod Stores
