pub mod Answers
pub mod Headline
pub mod Outcome
pub mod Positions
pub mod Report
pub mod Status
pub mod Words
