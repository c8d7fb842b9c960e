pub mod Replaced
pub mod FileCalls
