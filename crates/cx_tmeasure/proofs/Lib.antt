pub mod Adding
pub mod Told
mod Examples
