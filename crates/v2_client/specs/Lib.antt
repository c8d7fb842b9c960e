pub mod Writing
pub mod Frames
pub mod FrameReads
