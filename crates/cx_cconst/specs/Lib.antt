pub mod Constants
pub mod Walk
pub mod Word
