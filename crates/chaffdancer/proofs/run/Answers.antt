-- A run that gives a count was not refused: so the table has its rows.
use native.Mathlib.Omega.{arith}
use Rattle.table.proofs.Rows.{right_long}
use Rattle.serving.proofs.Outcome.{answered}
use Rattle.chaffdancer.proofs.run.Goals as goal

pub print_changes-requires-clause-table_whole : goal.print_changes-requires-clause-table_whole
print_changes-requires-clause-table_whole g c = omega (arith, right_long _ (answered _ _ _ _ c.in-Ok.ensures.value).right)
