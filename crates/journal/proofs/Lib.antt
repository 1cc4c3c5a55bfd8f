-- What a reader must believe is specs/.
--   Room        the room for a commit's records
--   Kept        a board that an opening and calls left
pub mod Room
pub mod Kept
