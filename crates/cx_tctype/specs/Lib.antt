pub mod Pointees
pub mod Reading
pub mod Words
