pub mod Funcs
pub mod Reading
pub mod Parts
