pub mod NameTexts
pub mod NameLists
pub mod FindingOnce
