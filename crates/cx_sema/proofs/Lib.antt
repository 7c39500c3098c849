pub mod Lasting
pub mod Holding
pub mod Whole
pub mod ExprBoth
pub mod PartBoth
pub mod LabelBoth
pub mod StmtBoth
pub mod FunctionBoth
