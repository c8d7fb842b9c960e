pub mod Putting
pub mod Drawing
pub mod Saving
pub mod Opening
pub mod Draws
pub use Rattle.disk_queue.proofs.Kept
pub use Rattle.disk_queue.proofs.Others
