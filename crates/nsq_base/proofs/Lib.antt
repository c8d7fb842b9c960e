pub mod Addresses
pub mod AsciiTexts
pub mod Defaults
pub mod IdDigits
pub mod PutBy
pub mod TopicsOf
pub mod Copies
pub mod HeldNames
