-- The loop's invariant: the guarded items below i are gathered.
use Rattle.std.proofs.Common.{◌≡◌, eqb}
use Rattle.board.specs.Opening.{gathered}
use Rattle.table.specs.Table.{kind_at}
use Rattle.opening.proofs.guarded.Given as goal

abbrev pub invariant-loop-i : goal.invariant-loop-i
invariant-loop-i l = l.set ≡ gathered (λ j. eqb (kind_at l.table j) 1) l.i
