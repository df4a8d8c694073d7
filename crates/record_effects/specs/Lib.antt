pub mod Managers
pub mod Acts
