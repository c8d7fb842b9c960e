pub mod KnownTexts
pub mod ClosedFiles
pub mod Deliveries
pub mod ErrorFrames
pub mod Noted
pub mod Heard
pub mod Outgoing
