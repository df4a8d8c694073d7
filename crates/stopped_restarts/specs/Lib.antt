pub mod Course
pub mod Refused
pub mod Laws
pub use Rattle.restart_laws.specs.Stopped
