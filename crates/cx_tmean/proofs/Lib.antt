pub mod More
pub mod Lengths
pub mod Fixed
pub mod Takes
mod Examples
