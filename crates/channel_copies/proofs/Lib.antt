pub mod Counts
pub mod Heaps
pub mod Indexing
pub mod Soonest
pub mod Capacity
pub mod Wrote
