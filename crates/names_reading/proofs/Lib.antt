pub mod Keepable
pub mod Listing
pub mod Putting
pub mod Sorting
