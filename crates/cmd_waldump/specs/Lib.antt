pub mod Causes
pub mod Waldump
