pub mod Lists
pub mod Turns
pub mod Shapes
pub mod Parts
pub mod Values
pub mod Sound
pub mod Follows
pub mod Again
