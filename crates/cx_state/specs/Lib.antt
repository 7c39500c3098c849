pub mod Known
pub mod Valid
pub mod Run
pub mod Stands
