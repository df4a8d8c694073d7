pub mod Files
pub mod Lengths
pub mod Reading
pub mod Blocks
pub mod Cutting
pub mod MapBits
pub mod Changes
pub mod Sparing
