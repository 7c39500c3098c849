pub mod Declarations
pub mod Derived
pub mod Fronts
pub mod Kinds
pub mod Reading
