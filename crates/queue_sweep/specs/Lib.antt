pub mod Forms
pub mod Names
pub mod Swept
pub mod Steps
