pub mod Custom
pub mod Refusals
