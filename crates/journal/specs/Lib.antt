pub mod Journal
pub mod Reached
