pub mod Names
pub mod Reading
pub mod Paths
pub mod Laws
