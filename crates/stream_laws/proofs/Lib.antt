pub mod SpellingLemmas
pub mod ScriptLemmas
pub mod ReadLemmas
pub mod SayingLemmas
pub mod EveryLemmas
