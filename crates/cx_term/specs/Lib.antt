pub mod Forms
pub mod Sums
pub mod Replaced
pub mod Conditions
pub mod Listed
