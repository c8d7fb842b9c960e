pub mod Seen
pub mod Kept
pub mod Rows
pub mod Answers
pub mod Deleting
pub mod Laws
