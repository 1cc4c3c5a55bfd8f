-- The loop's invariant: none of the first k numbers above the start shares an item.
use Rattle.board.specs.Rules.{shares}
use Rattle.items.proofs.First.{Passed}
use Prim.Native.Nat.{◌+◌}
use Rattle.ending.proofs.validation.overwritten.Given as goal

abbrev pub invariant-loop-k : goal.invariant-loop-k
invariant-loop-k l = Passed l.span (λ j. shares l.sets l.read (l.start.0 + 1 + j)) l.k
