pub mod Numbers
mod Examples
