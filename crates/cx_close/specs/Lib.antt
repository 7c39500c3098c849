pub mod Knowing
pub mod Closing
