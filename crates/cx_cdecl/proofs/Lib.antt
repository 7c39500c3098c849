mod Turns
mod Arrays
mod Params
mod Shallow
mod Longest
pub mod Shapes
pub mod Steps
pub mod BesideSound
pub mod DeclaratorSound
pub mod EnumSound
pub mod TagSound
pub mod SpecsSound
pub mod MembersSound
pub mod ParamsSound
pub mod DeclarationSound
pub mod Follows
pub mod BesideThere
pub mod DeclaratorThere
pub mod Grows
pub mod EnumThere
pub mod SpecsThere
pub mod Growing
pub mod MembersThere
pub mod ParamsThere
pub mod DeclarationThere
pub mod Only
pub mod LongestThere
mod There
mod Public
