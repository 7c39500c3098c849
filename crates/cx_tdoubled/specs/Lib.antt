pub mod Seen
pub mod Doubled
