pub mod Floors
pub mod Ends
pub mod Bounded
pub mod Learns
pub mod Below
pub mod Valids
