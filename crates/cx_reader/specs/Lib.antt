pub mod Answers
pub mod Reading
pub mod Lists
pub mod Parts
pub mod Faults
