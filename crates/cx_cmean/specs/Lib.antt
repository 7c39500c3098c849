pub mod Program
pub mod Numbers
pub mod Expressions
pub mod Effects
pub mod Statements
