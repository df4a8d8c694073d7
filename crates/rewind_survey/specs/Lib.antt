pub mod Faults
pub mod Fitness
pub mod Marks
pub mod Survey
