pub mod Alone
pub mod Rooted
pub mod Shown
