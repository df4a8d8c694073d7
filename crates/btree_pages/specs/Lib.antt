pub mod Page
pub mod Special
pub mod Items
pub mod Insert
pub mod Delete
pub mod Meta
pub mod Split
pub mod NewRoot
