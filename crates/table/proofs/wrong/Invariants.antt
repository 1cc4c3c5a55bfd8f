-- The loop's invariant: the rows before i are right.
use Rattle.std.proofs.Common.{◌≡◌, ◌<◌, ℕ, true}
use Rattle.table.specs.Table.{row_right}
use Rattle.table.proofs.wrong.Given as goal

abbrev pub invariant-loop-i : goal.invariant-loop-i
invariant-loop-i l = (k : ℕ) → k < l.i → row_right l.rows k ≡ true
