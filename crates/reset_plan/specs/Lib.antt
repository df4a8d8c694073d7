pub mod ResetFaults
pub mod NewSegment
pub mod Reset
pub mod Removals
pub mod Plan
pub mod Prepared
