-- A board that a host keeps, and its journal, opened.
use Rattle.std.specs.Prelude.{cond, List, ℕ, ℤ, pos, neg_ℤ, Result, Ok, Err}
use Rattle.table.specs.Table.{wrong}
use Rattle.table.specs.declared.WrongTable.{WrongTable}
use Rattle.journal.specs.Journal.{fresh, cleared}
use Rattle.journal.specs.declared.Journaled.{Journaled}

-- a fresh board of the table, unless it is wrong
unfoldable pub opened_of : List ℕ → Result Journaled WrongTable
opened_of t = cond (wrong t) (Err (record {})) (Ok (fresh t))

-- the journal j then
unfoldable pub journal_opened : List ℕ → List ℕ → List ℕ
journal_opened t j = cond (wrong t) j (cleared j)

-- ---- over a board that a host keeps

-- the board, and the number that is returned
pub record Opened : Type 0 where
  pub board : Journaled
  pub code : ℤ

-- 0 and a fresh board; or minus the number of the refusal, and the board as it was
unfoldable pub opened_by : Journaled → List ℕ → Opened
opened_by s t = cond (wrong t) (record { board = s; code = neg_ℤ (pos 10) }) (record { board = fresh t; code = pos 0 })
