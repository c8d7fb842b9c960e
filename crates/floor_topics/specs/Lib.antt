pub mod Going
pub mod Losing
pub mod Seating
pub mod Publishing
pub mod Pausing
pub mod Emptying
pub mod Deleting
