pub mod Statements
pub mod Kinds
pub mod Reading
