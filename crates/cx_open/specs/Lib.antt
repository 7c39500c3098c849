pub mod Steps
pub mod Naming
pub mod Cells
pub mod Parts
