pub mod Labels
pub mod Stmts
pub mod Around
pub mod Joined
