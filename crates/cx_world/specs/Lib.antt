pub mod Oracle
pub mod World
pub mod Access
pub mod Calls
pub mod Laws
