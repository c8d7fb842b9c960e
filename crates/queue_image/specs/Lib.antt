pub mod FileNames
pub mod Records
pub mod Places
pub mod Metas
pub mod Between
pub mod Finds
pub mod Answered
