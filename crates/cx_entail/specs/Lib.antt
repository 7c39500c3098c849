pub mod Ranges
pub mod Joins
pub mod Bounds
pub mod Shows
pub mod Meets
