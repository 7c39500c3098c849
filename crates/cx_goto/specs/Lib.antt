pub mod Trees
pub mod Operations
pub mod Machine
pub mod Steps
pub mod Whole
