pub mod Laws
pub mod ReaderLaws
