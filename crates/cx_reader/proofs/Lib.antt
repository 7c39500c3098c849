pub mod Laws
pub mod Tells
pub mod ListsTold
pub mod ListsThere
pub mod Clauses
pub mod Turns
pub mod Wholes
