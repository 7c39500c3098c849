pub mod Tables
pub mod DigitLemmas
pub mod Suffixes
pub mod Types
pub mod Marks
mod Examples
