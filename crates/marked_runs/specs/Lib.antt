pub mod Runs
pub mod Settled
pub mod Carried
pub mod Moments
pub mod Performed
pub mod Laws
pub mod StopLaws
