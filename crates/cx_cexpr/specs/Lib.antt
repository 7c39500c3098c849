pub mod IntWords
pub mod Expressions
pub mod Kinds
pub mod Reading
