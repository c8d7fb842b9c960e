pub mod Commands
pub mod DrillLemmas
pub mod NumberLemmas
pub mod PairLemmas
pub mod PlainWords
pub mod RangeLemmas
pub mod Refusals
pub mod SayingLemmas
