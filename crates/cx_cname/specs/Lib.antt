pub mod Known
pub mod Changes
pub mod Meanings
