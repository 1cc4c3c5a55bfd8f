-- What every board that a run leaves has in common, and what the code of answering and stepping leans on. What is demanded of runs is the crate demands.
--   Filled, Stale           the laws of two of the rules' functions
--   Validated               the end way by way
--   Granted, Bounds         what an answer tells of the board that gave it; the desk and the item are in range
--   Desks, Seats            what holds of one desk and of two, of the sixteen
--   Sound, Reached          what holds of every board that a run leaves
pub mod Filled
pub mod Stale
pub mod Validated
pub mod Granted
pub mod Bounds
pub mod Desks
pub mod Seats
pub mod Sound
pub mod Reached
