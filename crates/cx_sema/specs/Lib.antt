pub mod Functions
pub mod Settled
pub mod Kept
pub mod ExprRules
pub mod PartRules
pub mod StmtRules
