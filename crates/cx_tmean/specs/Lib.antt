pub mod Values
pub mod Types
pub mod Sizes
pub mod Memories
pub mod Calls
pub mod Allocators
pub mod Law
