pub mod Places
pub mod Stops
pub mod Headline
