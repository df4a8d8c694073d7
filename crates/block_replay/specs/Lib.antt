pub mod World
pub mod Faults
pub mod Pages
pub mod Blocks
pub mod Touched
