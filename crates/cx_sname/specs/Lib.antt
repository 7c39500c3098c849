pub mod File
pub mod Meanings
