pub mod Performing
pub mod Resetting
pub mod Stopping
