pub mod Locals
pub mod Views
