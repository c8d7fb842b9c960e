pub mod WritingLemmas
pub mod FrameLemmas
pub mod FrameRowLemmas
