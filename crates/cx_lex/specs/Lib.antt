pub mod Bytes
pub mod Directives
pub mod Lexed
pub mod Order
pub mod Pieces
pub mod Machine
