pub mod Names
pub mod Operations
pub mod Values
pub mod Fields
pub mod Profile
