pub mod Fine
pub mod Right
