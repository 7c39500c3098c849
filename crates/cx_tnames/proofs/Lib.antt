pub mod Regions
mod Examples
