pub mod Clusters
pub mod Laws
