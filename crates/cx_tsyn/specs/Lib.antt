pub mod Words
pub mod Lins
pub mod Cells
pub mod Types
pub mod Items
pub mod Levels
