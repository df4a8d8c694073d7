pub mod Pair
pub mod Stays
pub mod Tried
pub mod Left
