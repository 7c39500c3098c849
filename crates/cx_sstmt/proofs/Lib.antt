pub mod Steps
pub mod Folds
pub mod Turns
pub mod Joins
pub mod SameConstant
