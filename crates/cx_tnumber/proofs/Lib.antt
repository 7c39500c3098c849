pub mod Symbols
mod Examples
pub mod Limits
