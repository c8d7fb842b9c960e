pub mod Clients
pub mod Deferred
pub mod Flights
pub mod Index
pub mod Putting
pub mod Tally
pub mod Storing
