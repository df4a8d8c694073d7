pub mod Fits
pub mod Listing
pub mod Laws
