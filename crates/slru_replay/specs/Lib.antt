pub mod Area
pub mod Status
pub mod Cutting
pub mod MultiXact
