pub mod WrittenBytes
pub mod FileSteps
