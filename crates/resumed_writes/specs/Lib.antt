pub mod Outcomes
pub mod Tried
pub mod Again
