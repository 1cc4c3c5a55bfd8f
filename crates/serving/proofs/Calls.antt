-- Calls of hub_step say what a run says: the same rules one request at a time, and requests in one piece come apart again.
use Prim.Native.Nat.{ℕ, ◌*◌}
use mathlib.Core.Path.{◌≡◌, ap, ◌∙◌, subst}
use mathlib.Core.Bool.{false}
use mathlib.Core.List.{List}
use native.Mathlib.Omega.{arith}
use lib.ListN.{length}
use Rattle.items.proofs.Tests.{by_test}
use Rattle.words.specs.Bytes.{Bytes}
use Rattle.table.specs.Table.{wrong}
use Rattle.table.proofs.Rows.{right_long}
use Rattle.board.specs.Rules.{next, reply}
use Rattle.board.specs.Opening.{opening}
use Rattle.board.specs.declared.Board.{Board}
use Rattle.board.proofs.Reached.{reached_opening, reached_step}
use Rattle.pieces.specs.Pieces.{in_one}
use Rattle.serving.specs.Run.{completed, outcome, opened_by, stepped_by}
use Rattle.serving.specs.Calls.{OpenReaches, OpenKeeps, StepKeeps, CallsAreRun}
use Rattle.lent.proofs.Refused.{refuses_none}
use Rattle.lent.proofs.Served.{written_served, eight_long}
use Rattle.pieces.proofs.Eights.{in_one-length, apart}

-- ---- one call

opened_right : (b : Board) (t : List ℕ) → wrong t ≡ false → (opened_by b t).board ≡ opening t
unfolding opened_by
opened_right b t right = rw right

pub open_reaches : OpenReaches
open_reaches b t bytes right = rw (opened_right b t right) (reached_opening t bytes right)

pub open_keeps : OpenKeeps
unfolding opened_by
open_keeps b t bytes r =
    by_test (wrong t) (λ e. rw e r)
    (λ e. rw e (reached_opening t (subst (λ (n : ℕ). Bytes n t) (right_long t e) bytes) e))

pub step_keeps : StepKeeps
unfolding stepped_by
step_keeps b q bytes r = reached_step r q bytes

-- ---- all calls

pub calls_are_run : CallsAreRun
unfolding outcome stepped_by
calls_are_run b t right qs eights most a v room wide =
    let long : length (in_one qs) ≡ 8 * length qs = in_one-length qs (eight_long qs eights) in
    rw (refuses_none t (length (in_one qs)) (length a) (length v) right (omega arith) (omega arith) (omega arith) wide)
    (ap (λ (l : List (List ℕ)). completed (opening t) l a v) (apart qs (eight_long qs eights)) ∙ rw (opened_right b t right, written_served next reply))
