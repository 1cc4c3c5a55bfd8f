-- The invariant: the board is that after the first k requests, their answers stand at the front, and the rest of the buffer is as it was.
use Prim.Native.Nat.{◌*◌}
use Rattle.lent.specs.Served.{served}
use Rattle.pieces.specs.Pieces.{eights_of}
use Rattle.runs.specs.Runs.{after}
use lib.ListN.{length, drop}
use mathlib.Core.List.{◌++◌}
use mathlib.Core.Path.{◌≡◌}
use Rattle.serving.proofs.run.serve.Given as goal

abbrev pub invariant-loop-k : goal.invariant-loop-k
invariant-loop-k g l =
    let B = g.B.Serves in
    record {
      board : l.board ≡ after B.next l.initial.board (eights_of l.requests l.k);
      answers : l.answers ≡ served B.next B.reply l.initial.board (eights_of l.requests l.k) ++ drop (12 * l.k) l.initial.answers;
      length : length l.answers ≡ length l.initial.answers;
      ready : B.Ready l.board;
    }
