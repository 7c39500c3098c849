pub mod Known
pub mod Unknown
