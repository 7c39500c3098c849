pub mod Modular
pub mod Ranges
pub mod Types
pub mod Together
mod Examples
