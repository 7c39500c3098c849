pub mod Elements
pub mod Division
pub mod Over
pub mod Forms
