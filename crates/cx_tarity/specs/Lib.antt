pub mod Known
pub mod Counts
pub mod Capped
pub mod Arity
