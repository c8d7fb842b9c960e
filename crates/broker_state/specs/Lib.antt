pub mod Features
pub mod Once
pub mod Phases
pub mod Places
pub mod Tests
