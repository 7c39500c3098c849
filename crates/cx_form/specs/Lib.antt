pub mod Tokens
pub mod Grammar
pub mod Form
pub mod Files
pub mod Reading
pub mod Lexing
pub mod Rules
