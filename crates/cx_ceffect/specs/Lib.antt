pub mod Effects
pub mod Kinds
pub mod Reading
