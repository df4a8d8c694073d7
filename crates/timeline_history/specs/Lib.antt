pub mod Lines
pub mod Line
pub mod History
pub mod Ancestor
