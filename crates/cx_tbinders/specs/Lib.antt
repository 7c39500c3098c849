pub mod Uses
pub mod Left
pub mod Undetermined
