-- Calls of hub_step_journal say what a run with a journal says: the same rules one request at a time.
use Prim.Native.Nat.{ℕ, ◌*◌}
use mathlib.Core.Path.{◌≡◌, ap, ◌∙◌, subst}
use mathlib.Core.Bool.{false}
use mathlib.Core.List.{List}
use native.Mathlib.Omega.{arith}
use lib.ListN.{length}
use Rattle.items.proofs.Tests.{by_test}
use Rattle.words.specs.Bytes.{Bytes}
use Rattle.table.specs.Table.{wrong}
use Rattle.table.proofs.Rows.{right_long}
use Rattle.pieces.specs.Pieces.{in_one}
use Rattle.lent.proofs.Refused.{refuses_none}
use Rattle.lent.proofs.Served.{written_served, eight_long}
use Rattle.pieces.proofs.Eights.{in_one-length, apart}
use Rattle.journal.specs.Journal.{opened, next, reply}
use Rattle.fresh.specs.Fresh.{opened_by, journal_opened}
use Rattle.journaling.specs.Run.{completed, outcome, stepped_by}
use Rattle.journaling.specs.Calls.{OpenReaches, OpenKeeps, StepKeeps, CallsAreRun}
use Rattle.journal.specs.declared.Journaled.{Journaled}
use Rattle.journal.proofs.Kept.{reached_fresh, reached_call}

-- ---- one call

pub open_reaches : OpenReaches
unfolding opened_by
open_reaches s t bytes right = rw right (reached_fresh t bytes right)

pub open_keeps : OpenKeeps
unfolding opened_by
open_keeps s t bytes r =
    by_test (wrong t) (λ e. rw e r)
    (λ e. rw e (reached_fresh t (subst (λ (n : ℕ). Bytes n t) (right_long t e) bytes) e))

pub step_keeps : StepKeeps
unfolding stepped_by
step_keeps s n q bytes r = reached_call r n q bytes

-- ---- all calls

opened_right : (s : Journaled) (t j : List ℕ) → wrong t ≡ false → record { kept = (opened_by s t).board; journal = journal_opened t j } ≡ opened t j
unfolding opened_by journal_opened
opened_right s t j right = rw right

pub calls_are_run : CallsAreRun
unfolding outcome stepped_by
calls_are_run s t right qs eights most a v j room wide =
    let long : length (in_one qs) ≡ 8 * length qs = in_one-length qs (eight_long qs eights) in
    rw (refuses_none t (length (in_one qs)) (length a) (length v) right (omega arith) (omega arith) (omega arith) wide)
    (ap (λ (l : List (List ℕ)). completed (opened t j) l a v) (apart qs (eight_long qs eights)) ∙ rw (opened_right s t j right, written_served next reply))
