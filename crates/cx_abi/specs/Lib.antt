pub mod Recursion
pub mod Fields
