pub mod Told
pub mod Emptiness
pub mod Parts
mod Examples
