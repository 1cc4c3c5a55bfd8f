pub mod Checks
pub mod Requests
pub mod Answers
