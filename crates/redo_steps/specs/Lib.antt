pub mod Redo
pub mod Bits
pub mod Tuple
pub mod Head
