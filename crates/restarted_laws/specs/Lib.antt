pub mod Again
pub mod Files
pub mod Laws
pub mod FileLaws
pub mod Standing
pub mod Unchanged
