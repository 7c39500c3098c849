mod IntWords
mod Lows
mod Turns
mod Shapes
pub mod Spans
pub mod Steps
pub mod Counting
pub mod TypeSound
pub mod Begins
pub mod Sound
pub mod Counted
pub mod TypeAgain
pub mod Ends
pub mod Again
pub mod Fronts
mod Examples
