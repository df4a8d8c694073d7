pub mod Time
pub mod Text
pub mod Reading
