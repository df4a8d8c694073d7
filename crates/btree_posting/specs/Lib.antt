pub mod Tuple
pub mod Form
pub mod Dedup
pub mod Insert
pub mod Split
pub mod Updates
pub mod Posting
