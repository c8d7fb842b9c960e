pub mod Moves
pub mod Due
pub mod Moving
pub mod Holding
pub mod Pending
pub mod Taking
pub mod Copying
