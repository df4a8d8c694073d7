pub mod Looks
pub mod Steps
pub mod Plan
pub mod Taken
