-- What a reader must believe is specs/; Calls proves its laws.
--   Outcome     what a run's number tells
--   Calls       one call for each request leaves what a run leaves
pub mod Outcome
pub mod Calls
