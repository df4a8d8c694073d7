pub mod Tuples
pub mod Added
pub mod Lines
pub mod Operation
