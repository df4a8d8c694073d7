pub mod Faults
pub mod Marks
pub mod Source
pub mod Stored
