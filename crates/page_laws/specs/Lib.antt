pub mod Btree
pub mod Change
pub mod Results
pub mod Shown
pub mod Steps
pub mod Views
