pub mod Readers
pub mod Rows
pub mod Rules
pub mod Splice
pub mod Values
pub mod Writing
