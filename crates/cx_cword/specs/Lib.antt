pub mod Words
pub mod Integers
pub mod Fronts
pub mod Characters
pub mod Lexemes
pub mod Marks
pub mod Reading
