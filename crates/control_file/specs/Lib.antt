pub mod Admission
pub mod FieldNames
pub mod Names
pub mod Reading
pub mod Rows
pub mod Text
pub mod Time
pub mod Writing
