-- Neighbours: from two neighbouring requests to a whole run. Grown: a run with one request more, and what a run keeps.
-- Log: what operations do to one item. Account: what a desk's record says of its log. Since: what was written above a number.
pub mod Neighbours
pub mod Grown
pub mod Log
pub mod Account
pub mod Since
