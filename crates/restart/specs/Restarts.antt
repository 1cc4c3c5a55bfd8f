-- What a restart leaves, of every right table and every journal.
use Rattle.std.specs.Prelude.{ℕ, ◌≡◌, false, List}
use Rattle.words.specs.Bytes.{Bytes}
use Rattle.table.specs.Table.{wrong}
use Rattle.board.specs.Opening.{opening}
use Rattle.board.specs.declared.Board.{Board}
use Rattle.restart.specs.Restart.{restored, with_values}

-- the table that it leaves
abbrev pub table_after : List ℕ → List ℕ → List ℕ
table_after t j = with_values t (restored t j).whole

-- it is 1,024 bytes again, and right: the next restart takes it
abbrev pub RestartedRight : Type 0
RestartedRight = (t j : List ℕ) → Bytes 1024 t → wrong t ≡ false → (wrong (table_after t j) ≡ false) × Bytes 1024 (table_after t j)

-- a fresh opening of table t with the values vs
abbrev pub fresh_with : List ℕ → List ℕ → Board
fresh_with t vs =
    let fresh = opening t in
    record {
      values = vs;
      floors = fresh.floors;
      ceilings = fresh.ceilings;
      guarded = fresh.guarded;
      age = fresh.age;
      number = fresh.number;
      sets = fresh.sets;
      desks = fresh.desks;
    }

-- the board of that table is a fresh opening of the table before with the values after the last whole commit
abbrev pub RestartedOpens : Type 0
RestartedOpens = (t j : List ℕ) → Bytes 1024 t → wrong t ≡ false → opening (table_after t j) ≡ fresh_with t (restored t j).whole
