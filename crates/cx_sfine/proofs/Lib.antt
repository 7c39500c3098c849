pub mod Operands
pub mod Parts
pub mod Whole
pub mod Returns
