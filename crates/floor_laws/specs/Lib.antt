pub mod Lifting
pub mod Counts
pub mod Paying
pub mod Laid
pub mod Laws
