pub mod Rising
pub mod Listing
pub mod Soundness
pub mod Calls
pub mod Exchanging
pub mod Taking
