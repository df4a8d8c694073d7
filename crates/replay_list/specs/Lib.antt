pub mod Mark
pub mod Areas
pub mod Lines
pub mod Text
pub mod Reading
pub mod Faults
pub mod Laws
