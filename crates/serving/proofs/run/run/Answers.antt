-- By the check of the table and the lengths.
use Prim.Native.Nat.{◌/◌}
use Rattle.lent.proofs.Refused.{accepts, refuses, accepted}
use Rattle.pieces.proofs.Eights.{eights_of-length}
use Rattle.pieces.specs.Pieces.{eights_in}
use Rattle.serving.specs.Run.{outcome}
use Rattle.std.proofs.lemmas.Result.{err_from_is_err_and}
use lib.ListN.{length}
use mathlib.Core.Path.{◌≡◌}
use Rattle.serving.proofs.run.run.Goals as goal

pub complete-requires : goal.complete-requires
complete-requires c =
    let p = accepts _ _ c.in_ok-rows.ensures in
    rw (p.1) (p.0)

pub returns-in_err-rows-clause-value : goal.returns-in_err-rows-clause-value
unfolding outcome
returns-in_err-rows-clause-value c =
    let p = err_from_is_err_and c.from_residual.result c.from_residual.ensures.1 in
    rw (p.1, p.2, refuses _ _ c.in_err-rows.ensures)

pub returns-clause-value : goal.returns-clause-value
unfolding outcome
returns-clause-value c =
    let p = accepts _ _ c.in_ok-rows.ensures in
    rw (p.0, ← p.1) c.complete.ensures

pub returns-clause-most : goal.returns-clause-most
returns-clause-most c =
    let q = c.args.requests.now in
    let n : c.complete.result ≡ length (eights_in q) = cc c.complete.ensures in
    let p = accepts _ _ c.in_ok-rows.ensures in
    rw (n, eights_of-length q (length q / 8)) (accepted _ _ _ _ p.0).most
