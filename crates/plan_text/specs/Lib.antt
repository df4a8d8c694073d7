pub mod Mark
pub mod Words
pub mod Paths
pub mod Steps
pub mod Text
pub mod Reading
pub mod Stored
pub mod Laws
