pub mod Allocs
pub mod Reading
pub mod Parts
