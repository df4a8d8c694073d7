pub mod Acts
pub mod Texts
pub mod Laws
