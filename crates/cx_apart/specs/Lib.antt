pub mod Apart
pub mod Putting
