pub mod Words
pub mod Paths
pub mod Ways
pub mod Lines
