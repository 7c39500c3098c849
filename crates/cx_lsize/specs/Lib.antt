pub mod Sorts
pub mod Params
