pub mod Faults
pub mod Text
pub mod Planned
pub mod Rooted
pub mod Fits
pub mod Stops
pub mod Laws
pub mod Over
