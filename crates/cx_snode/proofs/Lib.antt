pub mod Judged
pub mod Optional
