pub mod Fronts
pub mod Keeps
pub mod Points
pub mod Taking
