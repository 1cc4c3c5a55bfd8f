-- The loop keeps its invariant, and at its end that is what is promised.
use Rattle.board.proofs.Validated.{none_stale, is_stale}
use Rattle.items.proofs.First.{passed_none, passed_one, stopped, passed_all}
use Rattle.items.proofs.Laws.{lowest_some, lowest_nothing}
use mathlib.Core.Bool.{not}
use mathlib.Core.Path.{ap, sym, ◌∙◌}
use native.Mathlib.Omega.{arith}
use Rattle.ending.proofs.validation.overwritten.Goals as goal

pub loop-k-init : goal.loop-k-init
loop-k-init c = passed_none _ _

pub returns-in-Some : goal.returns-in-Some
returns-in-Some c =
    let both = lowest_some _ _ (rw (c.common-both.ensures, c.place.ensures, c.later-number.ensures) at (sym c.lowest.ensures ∙ c.in-Some.is)) in
    let passed = (rw c.since-span.ensures at c.loop-k.invariant) in
    rw (c.index.ensures.same, c.later-number.ensures)
    (is_stale _ _ _ _ c.loop-k.k (omega (arith, c.since-span.ensures)) (sym (stopped _ _ _ passed (ap not both.0))) _ both.1)

pub loop-k-preserved : goal.loop-k-preserved
loop-k-preserved c =
    passed_one _ _ _ c.loop-k.invariant c.loop-k-test.true
    (ap not (lowest_nothing _ (rw (c.common-both.ensures, c.place.ensures, c.later-number.ensures) at (sym c.lowest.ensures ∙ c.in_default.is))))

pub returns : goal.returns
returns c =
    let passed = (rw c.since-span.ensures at c.loop-k.invariant) in
    none_stale _ _ _ _ (sym (passed_all _ _ _ passed (omega (arith, c.since-span.ensures))) ∙ omega (arith, c.since-span.ensures)) c.requires.start_le_last
