mod Folds
mod Lists
mod Turns
mod Shapes
mod Steps
pub mod LocalSound
pub mod HeaderSound
pub mod Sound
pub mod BlockSound
pub mod Filled
pub mod Goes
pub mod Begins
pub mod Growing
pub mod LocalThere
pub mod HeaderThere
pub mod StmtGoes
pub mod There
pub mod BlockThere
