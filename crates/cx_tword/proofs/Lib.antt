pub mod Tables
pub mod Marks
mod Examples
