pub mod Regions
pub mod Reading
pub mod Parts
