pub mod Keeping
pub mod NameTexts
pub mod Utf8Names
