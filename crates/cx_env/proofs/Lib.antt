pub mod Layouts
pub mod Changes
