pub mod Gates
pub mod Looks
pub mod Changes
pub mod Left
pub mod Refused
pub mod Laws
