pub mod Timely
pub mod Saving
pub mod Flushing
pub mod Opened
