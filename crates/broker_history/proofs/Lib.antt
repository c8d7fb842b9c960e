pub mod Histories
pub mod Stops
pub mod Own
pub mod Lists
pub mod Timing
pub mod Counting
pub mod Scripting
pub mod Copies
