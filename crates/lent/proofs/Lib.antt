-- What a reader must believe is specs/.
--   Served      one more request at the end of a run, on any board
--   Refused     a run's checks in their order, and what a run leaves by them
--   Machine     how a walk by hand of a function's code gives the function's theorem
pub mod Served
pub mod Refused
pub mod Machine
