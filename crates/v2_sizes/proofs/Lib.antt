pub mod SizeLemmas
