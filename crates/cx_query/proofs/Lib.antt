pub mod Comes
pub mod RangeLaws
pub mod Fresh
pub mod PointLaws
pub mod KindLaws
