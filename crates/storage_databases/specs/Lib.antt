pub mod Databases
pub mod RelationMap
