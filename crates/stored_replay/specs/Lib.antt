pub mod Faults
pub mod Shadows
pub mod Marks
pub mod Stored
