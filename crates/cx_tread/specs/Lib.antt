pub mod Faults
pub mod TypeFiles
