pub mod Held
pub mod Whole
pub mod Log
pub mod Laws
pub mod Converging
pub mod Refusals
pub mod Touched
