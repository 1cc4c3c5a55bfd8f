-- Outline, "A whole run": the opening table's bytes to a fresh board. A table that is wrong is refused before; see the crate table.
use Rattle.std.specs.Prelude.{ℕ, zero, suc, Bool, true, cond, List, replicate, eqb}
use Rattle.items.specs.Items.{none, with}
use Rattle.items.specs.declared.Items.{Items}
use Rattle.counters.specs.Counters.{no_age, no_number}
use Rattle.table.specs.Table.{floor_at, ceiling_at, value_at, kind_at}
use Rattle.desks.specs.Desks.{idle}
use Rattle.board.specs.Rules.{filled}
use Rattle.board.specs.declared.Board.{Board}

-- a number for each of the 64 items
abbrev pub column : (ℕ → ℕ) → List ℕ
column f = filled (λ i. true) f 64 (replicate 64 0)

-- the items below n that pass the test
unfoldable pub gathered : (ℕ → Bool) → ℕ → Items
gathered p zero = none
gathered p (suc n) =
    let before = gathered p n in
    cond (p n) (with before n) before

-- nothing is given yet, nothing written, and every desk is idle and keeps no age
unfoldable pub opening : List ℕ → Board
opening t =
    record {
      values = column (value_at t);
      floors = column (floor_at t);
      ceilings = column (ceiling_at t);
      guarded = gathered (λ i. eqb (kind_at t i) 1) 64;
      age = no_age;
      number = no_number;
      sets = replicate 16 none;
      desks = replicate 16 (idle no_age);
    }
