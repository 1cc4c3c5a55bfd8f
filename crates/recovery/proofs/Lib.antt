-- What a reader must believe is specs/; Step, Never, Heard, Growth, Commuting and Waited prove Journaled, and Cut proves Cuts.
--   Step        one request: refused 15 where room lacks, and elsewhere answered as without a journal; a refusal or a wait changes nothing
--   Never       the board without a journal never gives 15
--   Heard       the second demand, by the requests that were not refused 15
--   Growth      a request writes no byte of the journal but those that it comes to use
--   Commuting   the third demand
--   Waited      whom a desk waits for, and what its age is worth to it
--   Pieces      records of 8 bytes at the front of a buffer
--   Quiet       what is read of records that close nothing
--   Entry       what is read of a commit's records
--   Copies      a desk's copies are within the limits of their items
--   Held        what a journal holds after any run
--   Cut         the restart after any cut
pub mod Step
pub mod Never
pub mod Heard
pub mod Growth
pub mod Commuting
pub mod Waited
pub mod Pieces
pub mod Quiet
pub mod Entry
pub mod Copies
pub mod Held
pub mod Cut
