-- Outline, "A whole run": what a run returns and what it leaves in the two buffers; and one request at a time over a board that a host keeps.
use Rattle.std.specs.Prelude.{ℕ, ◌*◌, cond, List, ◌++◌, ℤ, pos, neg_ℤ, length, drop, Result, Ok, Err}
use Rattle.runs.specs.Runs.{after}
use Rattle.words.specs.Bytes.{byte}
use Rattle.wire.specs.Answers.{encode}
use Rattle.table.specs.Table.{wrong}
use Rattle.table.specs.declared.WrongTable.{WrongTable}
use Rattle.board.specs.Rules.{next, reply}
use Rattle.board.specs.Opening.{opening}
use Rattle.board.specs.declared.Board.{Board}
use Rattle.pieces.specs.Pieces.{eights_in, four_each}
use Rattle.lent.specs.Served.{served}
use Rattle.wire.specs.Checks.{unless}
use Rattle.lent.specs.Refusals.{refusal, as_number}

-- ---- a whole run: the table t, the requests q, and what the answers' and the values' buffers held, a and v

-- the number returned, and what the two buffers hold then
pub data Outcome : Type 0 where
  told : ℤ → List ℕ → List ℕ → Outcome

-- the count of answers, their bytes and the final values; each buffer keeps what it had beyond
abbrev pub completed : Board → List (List ℕ) → List ℕ → List ℕ → Outcome
completed b qs a v =
    told (pos (length qs)) (served next reply b qs ++ drop (12 * length qs) a) (four_each (after next b qs).values ++ drop 256 v)

-- where a check fails, minus the number of the refusal, and nothing written
unfoldable pub outcome : List ℕ → List ℕ → List ℕ → List ℕ → Outcome
outcome t q a v =
    unless (refusal t (length q) (length a) (length v)) (λ r. told (as_number (Err r)) a v) (completed (opening t) (eights_in q) a v)

-- ---- one request at a time, over a board that a host keeps

-- the board of the table, unless it is wrong
unfoldable pub opened_of : List ℕ → Result Board WrongTable
opened_of t = cond (wrong t) (Err (record {})) (Ok (opening t))

-- the board, and the number that is returned
pub record Opened (S : Type 0) : Type 0 where
  pub board : S
  pub code : ℤ

-- 0 and the board of the table; or minus the number of the refusal, and the board as it was
unfoldable pub opened_by : Board → List ℕ → Opened Board
opened_by b t = cond (wrong t) (record { board = b; code = neg_ℤ (pos 10) }) (record { board = opening t; code = pos 0 })

-- the board after a request, and the 12 bytes of its answer
pub record Told (S : Type 0) : Type 0 where
  pub board : S
  pub bytes : List ℕ

unfoldable pub stepped_by : Board → List ℕ → Told Board
stepped_by b q = record { board = next b q; bytes = encode (byte q 1) (reply b q) }
