pub mod Answers
pub mod Costs
pub mod Deleting
pub mod Drawing
pub mod Drawn
pub mod Kept
pub mod Made
pub mod Moves
pub mod Seen
pub mod Storing
pub use Rattle.backlog.specs.Lists
pub use Rattle.backlog.specs.Seen as Backlogs
pub use Rattle.channel_copies.specs.Clients
pub use Rattle.channel_copies.specs.declared.clients.Client
pub use Rattle.backlog.specs.QueueOptions
pub use Rattle.backlog.specs.Queues
