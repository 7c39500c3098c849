pub mod Regions
pub mod BadSizes
pub mod Views
