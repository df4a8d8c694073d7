pub mod Name
pub mod Faults
pub mod Fit
