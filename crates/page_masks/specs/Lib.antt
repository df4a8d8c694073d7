pub mod Kind
pub mod Mask
pub mod Shapes
pub mod Laying
pub mod Sound
pub mod Law
