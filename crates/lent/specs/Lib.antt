pub mod Refusals
pub mod Served
