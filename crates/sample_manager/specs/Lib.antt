pub mod Operation
pub mod Slot
pub mod Text
pub mod Change
pub mod SlotPages
pub mod Laws
