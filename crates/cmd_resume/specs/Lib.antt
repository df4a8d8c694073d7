pub mod Changes
pub mod Calls
pub mod Resume
pub mod Rests
