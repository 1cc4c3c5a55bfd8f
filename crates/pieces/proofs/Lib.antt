-- What a reader must believe is specs/.
--   Buffers     written from the front, piece by piece
--   Eights      pieces of 8 bytes: one of a slice, in one, and apart again
pub mod Buffers
pub mod Eights
