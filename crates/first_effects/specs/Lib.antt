pub mod First
pub mod Taken
pub mod Gathered
pub mod References
