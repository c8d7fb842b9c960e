pub mod Seen
pub mod Kept
pub mod Lists
pub mod Answers
pub mod Deleting
pub use Rattle.disk_queue.specs.Seen as Queues
pub use Rattle.disk_queue.specs.Holding
pub use Rattle.disk_queue.specs.Answers as QueueAnswers
pub use Rattle.disk_queue.specs.Opened
pub use Rattle.disk_queue.specs.Emptying
pub use Rattle.disk_queue.specs.Refusals
pub use Rattle.disk_queue.specs.Open
pub use Rattle.disk_queue.specs.QueueOptions
pub use Rattle.disk_queue.specs.declared.answers.Emptied
