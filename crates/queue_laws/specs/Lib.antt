pub mod Laws
pub mod Queues
pub mod Sweeps
