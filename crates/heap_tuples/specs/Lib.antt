pub mod Heap
pub mod Delete
pub mod Confirm
pub mod Lock
pub mod Inplace
pub mod Put
