-- A wrong table gives the first refusal.
use Rattle.lent.specs.Refusals.{refusal}
use Rattle.std.proofs.lemmas.Result.{err_from_is_err_and}
use Rattle.table.proofs.Rows.{checked_not}
use Rattle.lent.proofs.accept.Goals as goal

pub returns-in_err-rows : goal.returns-in_err-rows
unfolding refusal
returns-in_err-rows c =
    let p = err_from_is_err_and c.from_residual.result c.from_residual.ensures.1 in
    rw (p.1, p.2, checked_not c.args.table.now _ c.in_err-rows.ensures)
