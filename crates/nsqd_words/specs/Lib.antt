pub mod Command
pub mod Durations
pub mod Numbers
pub mod Parts
pub mod Plain
pub mod Requests
pub mod Saying
