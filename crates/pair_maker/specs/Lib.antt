pub mod Inserts
pub mod Blocks
pub mod Logs
pub mod Files
pub mod Clusters
pub mod Entries
pub mod Pair
