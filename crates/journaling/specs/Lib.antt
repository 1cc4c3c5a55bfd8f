pub mod Lent
pub mod Run
pub mod Calls
