pub mod Binders
pub mod Lists
pub mod Layouts
pub mod Places
pub mod Known
pub mod Closed
