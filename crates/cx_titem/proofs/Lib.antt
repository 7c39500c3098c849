pub mod Turns
pub mod Told
pub mod There
pub mod Laws
