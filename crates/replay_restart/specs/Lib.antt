pub mod Faults
pub mod Meant
pub mod Stopped
pub mod Left
