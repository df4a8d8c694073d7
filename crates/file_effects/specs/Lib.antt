pub mod Own
pub mod Touched
pub mod MapClears
pub mod Effect
pub mod Done
pub mod Laws
