pub mod Faults
pub mod First
pub mod Checkpoint
pub mod Back
pub mod Chain
pub mod Needed
pub mod Steps
pub mod Laws
