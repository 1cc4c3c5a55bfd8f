-- The loop's invariant: the copies stand below i.
use Rattle.board.specs.Rules.{filled}
use Rattle.items.specs.Items.{has}
use lib.ListN.{get_or}
use mathlib.Core.Path.{◌≡◌}
use Rattle.stepping.proofs.following.installed.Given as goal

abbrev pub invariant-loop-i : goal.invariant-loop-i
invariant-loop-i l = l.after ≡ filled (has l.k.written) (λ j. get_or l.k.copies j 0) l.i l.initial.after
