pub mod Data
pub mod Once
pub mod Found
pub mod Laws
