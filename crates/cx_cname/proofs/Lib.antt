mod Places
mod Undoing
mod Ranks
mod Measures
pub mod Same
pub mod Whole
