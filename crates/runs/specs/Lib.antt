pub mod Runs
pub mod Replay
