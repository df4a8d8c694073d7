pub mod Plain
pub mod Kinds
pub mod Laws
pub use Rattle.stopped_restarts.specs.Course
pub use Rattle.stopped_restarts.specs.Stopped
