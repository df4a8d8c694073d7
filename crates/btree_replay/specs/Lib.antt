pub mod Meta
pub mod Insert
pub mod Delete
pub mod Split
pub mod NewRoot
pub mod Operation
