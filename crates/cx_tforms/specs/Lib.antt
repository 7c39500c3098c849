pub mod Terms
pub mod Amounts
pub mod Faulty
