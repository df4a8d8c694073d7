pub mod Faults
pub mod Listing
pub mod Folder
pub mod Segment
pub mod Bounds
pub mod Found
pub mod Laws
