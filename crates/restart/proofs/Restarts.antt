-- What a restart leaves, of every right table and every journal.
use Prim.Native.Nat.{ℕ, ◌+◌, ◌*◌, ◌<◌}
use mathlib.Core.Path.{◌≡◌, ap, sym, ◌∙◌}
use mathlib.Core.Bool.{false}
use mathlib.Core.List.{List}
use native.Mathlib.Omega.{arith}
use lib.Dec.{eqb}
use lib.ListN.{get_or}
use Rattle.words.specs.Bytes.{Bytes}
use Rattle.table.specs.Table.{floor_at, ceiling_at, value_at, kind_at, wrong}
use Rattle.table.proofs.Rows.{Row, holds_row, wrong_none, right_row}
use Rattle.board.specs.Opening.{opening}
use Rattle.board.proofs.Filled.{column-length, column_at, column_is, gathered_same}
use Rattle.restart.specs.Restart.{restored, with_values}
use Rattle.restart.specs.Restarts.{table_after, RestartedRight, RestartedOpens}
use Rattle.restart.proofs.Rewritten.{table-length, table_bytes, byte_kept, floor_kept, ceiling_kept, value_put}
use Rattle.restart.proofs.Within.{Within, restored_within}

module _ (t vs : List ℕ) (bytes : Bytes 1024 t) (within : Within t vs) where
  -- each value fits its four bytes, since its ceiling does
  value_is : (i : ℕ) → i < 64 → value_at (with_values t vs) i ≡ get_or vs i 0
  value_is i h =
      let at = 16 * i + 4 in
      value_put t vs bytes.long i h
      (omega (arith, within.ceiling i h, bytes.small at, bytes.small (at + 1), bytes.small (at + 2), bytes.small (at + 3)))

  kind_kept : (i : ℕ) → kind_at (with_values t vs) i ≡ kind_at t i
  kind_kept i = byte_kept t vs bytes.long (16 * i + 12) (λ n l. omega arith)

  module _ (right : wrong t ≡ false) where
    row_kept : (i : ℕ) → i < 64 → Row (with_values t vs) i
    row_kept i h =
        let long = bytes.long in
        let row = right_row t right i h in
        record {
          floor = rw (floor_kept t vs long i, value_is i h) (within.floor i h);
          ceiling = rw (ceiling_kept t vs long i, value_is i h) (within.ceiling i h);
          kind = rw (kind_kept i) row.kind;
          spare_13 = byte_kept t vs long (16 * i + 13) (λ n l. omega arith) ∙ row.spare_13;
          spare_14 = byte_kept t vs long (16 * i + 14) (λ n l. omega arith) ∙ row.spare_14;
          spare_15 = byte_kept t vs long (16 * i + 15) (λ n l. omega arith) ∙ row.spare_15;
        }

    still_right : wrong (with_values t vs) ≡ false
    still_right = sym (wrong_none (with_values t vs) (table-length t vs bytes.long) (λ i h. holds_row (with_values t vs) i (row_kept i h)))

pub restarted_right : RestartedRight
restarted_right t j bytes right =
    let vs = (restored t j).whole in
    (still_right t vs bytes (restored_within t right j) right, table_bytes t vs bytes.long bytes.small)

pub restarted_opens : RestartedOpens
unfolding opening
restarted_opens t j bytes right =
    let vs = (restored t j).whole in
    let within = restored_within t right j in
    let new = table_after t j in
    let long = bytes.long in
    let values = column_is (value_at new) vs within.long (value_is t vs bytes within) in
    let floors = column_is (floor_at new) (opening t).floors (column-length (floor_at t)) (λ i h. floor_kept t vs long i ∙ sym (column_at (floor_at t) i h)) in
    let ceilings = column_is (ceiling_at new) (opening t).ceilings (column-length (ceiling_at t)) (λ i h. ceiling_kept t vs long i ∙ sym (column_at (ceiling_at t) i h)) in
    let guarded = gathered_same (λ i. eqb (kind_at new i) 1) (λ i. eqb (kind_at t i) 1) 64 (λ i. ap (λ (n : ℕ). eqb n 1) (kind_kept t vs bytes within i)) in
    λ k. record {
      values = values k;
      floors = floors k;
      ceilings = ceilings k;
      guarded = guarded k;
      age = (opening t).age;
      number = (opening t).number;
      sets = (opening t).sets;
      desks = (opening t).desks;
    }
