pub mod Plan
pub mod Memory
pub mod Fakes
pub mod Image
