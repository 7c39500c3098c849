pub mod Judging
pub mod Nodes
