pub mod Decimal
pub mod Name
