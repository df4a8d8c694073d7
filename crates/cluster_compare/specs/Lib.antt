pub mod Same
pub mod Compared
pub mod Faults
pub mod Looks
pub mod Laws
