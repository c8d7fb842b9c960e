pub mod Refusals
pub mod Walked
pub mod Planned
pub mod Tidied
pub mod Again
pub use Rattle.queue_files.specs.Replaced
pub use Rattle.queue_files.specs.FileCalls
pub use Rattle.queue_files.specs.declared.options.QueueOptions
