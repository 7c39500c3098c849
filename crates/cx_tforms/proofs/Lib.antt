pub mod Symbols
mod Examples
