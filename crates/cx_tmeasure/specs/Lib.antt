pub mod Known
pub mod Views
pub mod Sizes
pub mod BadTypes
pub mod Judged
