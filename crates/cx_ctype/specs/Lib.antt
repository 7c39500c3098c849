pub mod Operations
pub mod ValueTypes
pub mod Rules
pub mod Accesses
