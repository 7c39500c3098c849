pub mod formers
pub mod Bytes
pub mod Memory
pub mod Names
pub mod Number
pub mod Place
