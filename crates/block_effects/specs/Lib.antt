pub mod Rules
pub mod Gone
pub mod Effects
pub mod Lives
pub mod Slot
