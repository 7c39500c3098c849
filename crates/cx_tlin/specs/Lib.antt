pub mod Lexemes
pub mod Lins
pub mod Kinds
pub mod Reading
