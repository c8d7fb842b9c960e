pub mod Causes
pub mod Streams
pub mod Journals
pub mod Files
pub mod Hosts
