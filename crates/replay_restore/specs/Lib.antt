pub mod Listing
pub mod Filled
pub mod Freed
pub mod Restored
pub mod Loose
