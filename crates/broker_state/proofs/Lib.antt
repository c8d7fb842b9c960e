pub mod Identifying
pub mod Lists
pub mod Order
