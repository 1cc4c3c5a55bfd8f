-- The invariant: the first i values are put.
use Rattle.std.proofs.Common.{◌≡◌, length}
use Rattle.pieces.specs.Pieces.{put_each}
use Rattle.pieces.proofs.put_each.Given as goal

abbrev pub invariant-loop-i : goal.invariant-loop-i
invariant-loop-i g l = (l.buffer ≡ put_each g.row.AT g.row.STEP l.initial.buffer l.fn.values l.i) × (length l.buffer ≡ length l.initial.buffer)
