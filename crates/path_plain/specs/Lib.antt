pub mod Answered
pub mod Findings
pub mod Folders
pub mod Reads
