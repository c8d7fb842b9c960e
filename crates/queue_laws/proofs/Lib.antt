pub mod Mending
pub mod Messages
