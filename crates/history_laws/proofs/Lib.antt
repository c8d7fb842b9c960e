pub mod Copying
pub mod Keeping
pub mod Stepping
pub mod Credits
pub mod Starting
