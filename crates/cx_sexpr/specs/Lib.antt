pub mod Typing
pub mod Kept
