pub mod Items
pub mod Scanning
pub mod Numbering
