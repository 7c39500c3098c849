pub mod Regions
pub mod Truths
pub mod Tells
pub mod Settles
pub mod Formed
