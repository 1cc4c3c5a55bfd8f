-- What a reader must believe is specs/; Calls proves its laws.
--   Lent        a run on a board with its journal lent
--   Calls       one call for each request leaves what a run leaves
pub mod Lent
pub mod Calls
