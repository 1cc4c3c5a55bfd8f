pub mod Rules
pub mod Opening
pub mod Example
pub mod Cases
pub mod Yielding
pub mod Reached
