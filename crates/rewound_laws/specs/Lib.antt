pub mod Needed
pub mod Copy
pub mod Alike
pub mod Grew
pub mod Blocks
pub mod Converge
