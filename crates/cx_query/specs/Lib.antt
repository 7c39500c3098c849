pub mod Shown
pub mod Range
pub mod Pointing
pub mod Kinds
