pub mod Restart
pub mod Restarts
