pub mod Acting
pub mod Drawing
pub mod Leads
pub mod Paying
pub mod Scenes
pub mod Timely
pub mod Turning
pub mod Turns
pub use Rattle.floor_files.specs.Flushing
pub use Rattle.floor_files.specs.Saving
pub use Rattle.floor_files.specs.Timely as TimelySaving
pub use Rattle.floor_moves.specs.Moves
