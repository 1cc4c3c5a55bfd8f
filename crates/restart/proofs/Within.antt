-- Every value of a reading is within the limits of its row: what is read of a right table and any journal.
use Prim.Native.Nat.{ℕ, ◌/◌, ◌≤◌, ◌<◌}
use mathlib.Core.Path.{◌≡◌, ◌∙◌}
use mathlib.Core.Bool.{false}
use mathlib.Core.List.{List}
use native.Mathlib.Omega.{arith}
use lib.ListN.{get_or, set, length, length-set}
use lib.Seq.{get_or-set_same, get_or-set_other}
use Rattle.items.proofs.Tests.{by_equal}
use Rattle.runs.proofs.Grown.{after_keeps}
use Rattle.words.specs.Bytes.{byte}
use Rattle.table.specs.Table.{floor_at, ceiling_at, value_at, wrong}
use Rattle.table.proofs.Rows.{right_row}
use Rattle.board.specs.Opening.{opening}
use Rattle.board.proofs.Filled.{column-length, column_at}
use Rattle.pieces.specs.Pieces.{eights_of}
use Rattle.records.specs.Records.{room}
use Rattle.restart.specs.Restart.{value_in, unread, read, restored, Reading}
use Rattle.restart.proofs.Fitting.{fitting}
use Rattle.restart.proofs.Steps.{by_form}

-- 64 values, each within the limits of its row
pub record Within (t vs : List ℕ) : Type 0 where
  pub long : length vs ≡ 64
  pub floor : (i : ℕ) → i < 64 → floor_at t i ≤ get_or vs i 0
  pub ceiling : (i : ℕ) → i < 64 → get_or vs i 0 ≤ ceiling_at t i

-- those after the last whole commit, and those of the commit that is being read
abbrev Kept : List ℕ → Reading → Type 0
Kept t at = Within t at.whole × Within t at.values

module _ (t : List ℕ) where
  one_set : {vs : List ℕ} → Within t vs → (i v : ℕ) → floor_at t i ≤ v → v ≤ ceiling_at t i → Within t (set vs i v)
  one_set {vs} w i v low high =
      record {
        long = length-set vs i v ∙ w.long;
        floor = λ k h.
            by_equal k i (λ e. rw (e, get_or-set_same vs i v 0 (omega (arith, w.long))) low)
            (λ ne. rw (get_or-set_other vs i k v 0 ne) (w.floor k h));
        ceiling = λ k h.
            by_equal k i (λ e. rw (e, get_or-set_same vs i v 0 (omega (arith, w.long))) high)
            (λ ne. rw (get_or-set_other vs i k v 0 ne) (w.ceiling k h));
      }

  read_keeps : (at : Reading) → Kept t at → (r : List ℕ) → Kept t (read t at r)
  read_keeps at k r =
      by_form t at r (Kept t) k
      (λ h. let fits = fitting t at r h in (k.0, one_set k.1 (byte r 1) (value_in r) fits.floor fits.ceiling)) (k.1, k.1) k

  module _ (right : wrong t ≡ false) where
    opening_within : Within t (opening t).values
    unfolding opening
    opening_within =
        record {
          long = column-length (value_at t);
          floor = λ i h. rw (column_at (value_at t) i h) (right_row t right i h).floor;
          ceiling = λ i h. rw (column_at (value_at t) i h) (right_row t right i h).ceiling;
        }

    pub restored_within : (j : List ℕ) → Within t (restored t j).whole
    unfolding restored
    restored_within j =
        (after_keeps (read t) (Kept t) read_keeps (unread (opening t).values) (opening_within, opening_within) (eights_of j (room (length j) / 8))).0
