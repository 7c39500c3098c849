mod Zeros
pub mod Few
