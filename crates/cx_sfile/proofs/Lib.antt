pub mod Finding
pub mod MembersFound
