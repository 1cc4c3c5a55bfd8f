-- What a reader must believe is specs/; Replay, Exchange, Worded, Done, Named and Aging prove it.
--   Invariant, Steps, Commit, Ending      what holds of a board and its history, and that each answer keeps it
--   Replay                                the second demand
--   Due, Seen, Done                       which answers a request gets, what it can see of a board, what its answer does to it
--   Pair, Exchange, Worded                two requests that are apart; the third demand; the same by their bytes
--   Named                                 a wait and a yield name the oldest holder
--   Aging                                 an aborted desk keeps its age, nobody becomes older than it, and the oldest is never made to yield
--   Needed, Shams                         what computes: each condition is needed, and no sham hub meets the demands
pub mod Invariant
pub mod Steps
pub mod Commit
pub mod Ending
pub mod Replay
pub mod Due
pub mod Seen
pub mod Done
pub mod Pair
pub mod Exchange
pub mod Worded
pub mod Named
pub mod Aging
pub mod Needed
pub mod Shams
