pub mod Roots
pub mod Faults
pub mod WholeFile
pub mod Marks
pub mod RootControl
pub mod RootHistory
pub mod RootLog
