pub mod Heap
pub mod Layout
