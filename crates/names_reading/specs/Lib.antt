pub mod Durable
pub mod Reading
