pub mod Told
pub mod There
pub mod Laws
mod Numbers
