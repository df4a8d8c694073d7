pub mod Own
pub mod Sparing
pub mod Answers
pub mod Asking
pub mod Edits
pub mod Clearing
pub mod Alike
pub mod Laws
