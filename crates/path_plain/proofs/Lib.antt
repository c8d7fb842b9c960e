pub mod FindingLemmas
pub mod Listed
pub mod Lists
pub mod NameLists
