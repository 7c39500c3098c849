pub mod Reads
pub mod Faults
pub mod Reading
pub mod Definitions
