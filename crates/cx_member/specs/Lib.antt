pub mod Reading
pub mod First
pub mod Passing
