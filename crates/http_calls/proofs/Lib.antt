pub mod Numbers
pub mod Appending
pub mod Printing
mod ArgumentLemmas
mod RouteLemmas
mod DelayLemmas
mod BatchLemmas
mod LineLemmas
mod InfoLemmas
mod AskLemmas
mod AppendLemmas
mod PublishLemmas
