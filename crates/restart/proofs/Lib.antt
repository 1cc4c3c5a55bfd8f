-- What a reader must believe is specs/.
--   Fitting     whether a record fits
--   Steps       one record more, by its form; where the reading stops, and the pieces that are read
--   Rewritten   the table with other values in its rows: what stands where
--   Within      every value of a reading is within the limits of its row
--   Restarts    what a restart leaves is a right table, and its board a fresh opening with the values after the last whole commit
--   Outcome     a restart by its test of the table
pub mod Fitting
pub mod Steps
pub mod Rewritten
pub mod Within
pub mod Restarts
pub mod Outcome
