pub mod Journaled
pub mod Cuts
