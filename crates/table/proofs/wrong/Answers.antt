-- Where the length is another, where a row is not right, and at the loop's end, that is what is promised.
use Rattle.std.proofs.Common.{length, sym, refl, ◌∙◌, ap, arith}
use Rattle.items.proofs.Tests.{clash, by_equal}
use Rattle.table.specs.Table.{wrong}
use Rattle.table.proofs.Rows.{wrong-length, wrong_row, wrong_none}
use Rattle.table.proofs.wrong.Goals as goal

pub returns-in_default : goal.returns-in_default
returns-in_default c = wrong-length _ (λ e. clash (c.in_default.ensures.variant.1 e) refl)

pub returns-then-not-row_right : goal.returns-then-not-row_right
returns-then-not-row_right c =
    let rows = c.in-Some.ensures.cases in
    wrong_row _ (ap length rows.same ∙ rows.long) c.loop-i.i (omega arith) (sym c.if-not-row_right.ensures) ∙ ap wrong rows.same

pub loop-i-preserved : goal.loop-i-preserved
loop-i-preserved c k h =
    by_equal k c.loop-i.i (λ e. rw e (sym c.if-not-row_right.ensures)) (λ n. c.loop-i.invariant k (omega arith))

pub returns : goal.returns
returns c =
    let rows = c.in-Some.ensures.cases in
    wrong_none _ (ap length rows.same ∙ rows.long) (λ k h. c.loop-i.invariant k (omega arith)) ∙ ap wrong rows.same
