pub mod Waiting
pub mod Putting
pub mod Heads
pub mod Saving
pub mod Keeping
pub mod Flushing
pub mod Opening
