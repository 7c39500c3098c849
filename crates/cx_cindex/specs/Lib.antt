pub mod Sets
pub mod UnitNames
