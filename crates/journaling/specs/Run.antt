-- What a run with a journal returns and what it leaves in the three buffers; and one request at a time over a board that a host keeps.
use Rattle.std.specs.Prelude.{ℕ, ◌*◌, List, ◌++◌, ℤ, pos, length, drop, Err}
use Rattle.runs.specs.Runs.{after}
use Rattle.words.specs.Bytes.{byte}
use Rattle.wire.specs.Answers.{encode}
use Rattle.pieces.specs.Pieces.{eights_in, four_each}
use Rattle.lent.specs.Served.{served}
use Rattle.wire.specs.Checks.{unless}
use Rattle.lent.specs.Refusals.{refusal, as_number}
use Rattle.journal.specs.Journal.{step, Ledger, opened, next, reply}
use Rattle.journal.specs.declared.Journaled.{Journaled}
use Rattle.serving.specs.Run.{Told}

-- ---- a whole run: the table t, the requests q, and what the buffers of the answers, the values and the journal held, a, v and j

-- the number returned, and what the three buffers hold then
pub data Outcome : Type 0 where
  told : ℤ → List ℕ → List ℕ → List ℕ → Outcome

-- as without a journal; and the journal as the last request left it
abbrev pub completed : Ledger → List (List ℕ) → List ℕ → List ℕ → Outcome
completed l qs a v =
    let last = after next l qs in
    told (pos (length qs)) (served next reply l qs ++ drop (12 * length qs) a) (four_each last.kept.board.values ++ drop 256 v)
    last.journal

-- where a check fails, minus the number of the refusal, and nothing written, the journal included
unfoldable pub outcome : List ℕ → List ℕ → List ℕ → List ℕ → List ℕ → Outcome
outcome t q a v j =
    unless (refusal t (length q) (length a) (length v)) (λ r. told (as_number (Err r)) a v j) (completed (opened t j) (eights_in q) a v)

-- ---- one request at a time, over a board that a host keeps

-- the board after a request over a journal of length n, and the 12 bytes of its answer
unfoldable pub stepped_by : Journaled → ℕ → List ℕ → Told Journaled
stepped_by s n q = record { board = (step s n q).board; bytes = encode (byte q 1) (step s n q).answer }
