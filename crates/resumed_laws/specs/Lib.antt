pub mod Resumed
pub mod Groups
pub mod Between
pub mod Sound
pub mod Stopped
pub mod Laws
pub mod RunLaws
