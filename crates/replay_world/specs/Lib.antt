pub mod World
pub mod Records
pub mod Touched
