pub mod Faults
pub mod Scanned
pub mod Checked
pub mod Steps
