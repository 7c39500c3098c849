pub mod Bounds
pub mod Keeping
pub mod Labels
pub mod Values
pub mod Effects
pub mod Statements
pub mod Whole
