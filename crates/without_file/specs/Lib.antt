pub mod Rooted
pub mod Without
