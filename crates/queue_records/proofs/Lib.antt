pub mod Heads
pub mod Rows
