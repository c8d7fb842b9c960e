pub mod Replies
pub mod Dues
pub mod Plans
pub mod Acts
pub mod Spots
pub mod Flights
pub mod Sending
