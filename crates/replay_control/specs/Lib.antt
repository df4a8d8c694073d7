pub mod Said
pub mod Following
