pub mod Stack
pub mod Unpaired
pub mod Cutting
