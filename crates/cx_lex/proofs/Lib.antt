pub mod Spans
pub mod Loop
pub mod Agrees
pub mod Order
pub mod Pieces
pub mod Inside
