pub mod Chain
pub mod Layout
pub mod Meaning
pub mod Names
pub mod Rules
pub mod Safe
pub mod TypedMemory
