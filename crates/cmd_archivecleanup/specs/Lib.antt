pub mod Archivecleanup
pub mod Steps
pub mod Left
pub mod Laws
