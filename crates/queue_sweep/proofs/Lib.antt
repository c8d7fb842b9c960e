pub mod Stems
pub mod Colons
pub mod Listing
pub mod Sweeps
pub mod Staying
