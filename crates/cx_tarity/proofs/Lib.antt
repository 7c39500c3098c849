pub mod Capping
pub mod Emptiness
mod Examples
