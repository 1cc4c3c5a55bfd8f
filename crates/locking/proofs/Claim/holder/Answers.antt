-- The loop keeps its invariant. What is returned comes first, so that another desk put aside is named before anything else.
use Rattle.locking.proofs.Search.{none_below, found_passed, found_older}
use mathlib.Core.Path.{◌≡◌, sym, ◌∙◌}
use native.Mathlib.Omega.{arith}
use Rattle.locking.proofs.Claim.holder.Goals as goal
use Rattle.locking.proofs.Claim.holder.Goals.{then-meets, else-meets}

pub returns : goal.returns
returns c = let n : c.loop-n.n ≡ 16 = omega arith in (rw n at c.loop-n.invariant)

pub loop-n-init : goal.loop-n-init
loop-n-init c = none_below _ _

pub loop-n-preserved : goal.loop-n-preserved
loop-n-preserved c =
    elim c.if-meets.branch [
      | then-meets w ↦
          rw (w.oldest-is, w.older.ensures, c.loop-n.invariant, c.at-e.ensures)
          (found_older _ _ _ c.loop-n-test.true (rw c.at-e.ensures at (sym c.meets.ensures ∙ w.if-meets.true)))
      | else-meets w ↦
          rw (w.oldest-is, c.loop-n.invariant) (found_passed _ _ _ (rw c.at-e.ensures at (sym c.meets.ensures ∙ w.if-meets.false)))
    ]
