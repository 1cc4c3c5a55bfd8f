pub mod History
pub mod Demands
pub mod Waiting
pub mod Keeping
