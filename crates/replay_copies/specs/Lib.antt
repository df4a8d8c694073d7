pub mod Laid
pub mod Calls
pub mod Left
pub mod Copying
pub mod Ended
pub mod Laws
