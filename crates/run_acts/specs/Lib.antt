pub mod Causes
pub mod Answers
pub mod Unseen
pub mod Laws
