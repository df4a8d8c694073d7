pub mod Options
pub mod Names
pub mod NewControl
pub mod Behind
