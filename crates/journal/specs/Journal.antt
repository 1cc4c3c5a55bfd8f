-- The board with a journal of its commits. The board's answer comes first; then the room for the records of a commit is tested; then the
-- board follows, and the records are put into the journal.
use Rattle.std.specs.Prelude.{ℕ, ◌+◌, Bool, true, false, cond, ◌&&◌, List, [], ◌++◌, ltb, length, drop, replicate}
use Rattle.wire.specs.Requests.{Decoded, decode, desk_of}
use Rattle.wire.specs.declared.Answer.{Answer}
use Rattle.wire.specs.declared.Answer.TheVariants.{Refused, Opened, Value, Stored, Wait, Committed, Abandoned, Aborted}
use Rattle.desks.specs.declared.Desk.{Desk}
use Rattle.board.specs.Rules.{desk_at, answer, follow}
use Rattle.board.specs.Opening.{opening}
use Rattle.records.specs.Records.{records_of, size_of, room, over}
use Rattle.journal.specs.declared.Journaled.{Journaled}
use Rattle.board.specs.declared.Stepped.{Stepped}

-- ---- the answer

-- it is a commit
abbrev pub commits : Answer → Bool
commits (Refused n) = false
commits (Opened a s) = false
commits (Value i v) = false
commits (Stored i) = false
commits (Wait i e) = false
commits (Committed n) = true
commits Abandoned = false
commits (Aborted w) = false

-- an end that would commit but lacks room for all its records is refused; with them, `need` bytes would be used
abbrev pub limited : ℕ → ℕ → Answer → Answer
limited need room a = cond (commits a && ltb room need) (Refused 15) a

-- the desk that asks
abbrev pub asking : Journaled → Decoded → Desk
asking s q = desk_at s.board (desk_of q)

-- over a journal of length n
unfoldable pub answer_in : Journaled → ℕ → Decoded → Answer
answer_in s n q = limited (s.used + size_of (asking s q).written) (room n) (answer s.board q)

-- ---- the board and the journal after it

-- the bytes that an answer adds to the journal: of a commit, its records
abbrev pub added : Desk → Answer → List ℕ
added k (Refused n) = []
added k (Opened a s) = []
added k (Value i v) = []
added k (Stored i) = []
added k (Wait i e) = []
added k (Committed n) = records_of k n
added k Abandoned = []
added k (Aborted w) = []

abbrev pub stepped : Journaled → ℕ → Decoded → Stepped Journaled
stepped s n q =
    let a = answer_in s n q in
    record { board = record { board = follow s.board q a; used = s.used + length (added (asking s q) a) }; answer = a }

-- of 8 bytes, over a journal of length n
unfoldable pub step : Journaled → ℕ → List ℕ → Stepped Journaled
step s n bytes = stepped s n (decode bytes)

-- what journal j holds then
unfoldable pub journal_after : Journaled → List ℕ → List ℕ → List ℕ
journal_after s j bytes =
    let q = decode bytes in
    over j s.used (added (asking s q) (answer_in s (length j) q))

-- ---- opening

abbrev pub fresh : List ℕ → Journaled
fresh t = record { board = opening t; used = 0 }

-- a journal zeroed, as far as it is used
abbrev pub cleared : List ℕ → List ℕ
cleared j = replicate (room (length j)) 0 ++ drop (room (length j)) j

-- ---- of a run: the board, and the buffer that every call is lent, as the call before left it

pub record Ledger : Type 0 where
  pub kept : Journaled
  pub journal : List ℕ

abbrev pub opened : List ℕ → List ℕ → Ledger
opened t j = record { kept = fresh t; journal = cleared j }

abbrev pub next : Ledger → List ℕ → Ledger
next l q =
    record {
      kept = (step l.kept (length l.journal) q).board;
      journal = journal_after l.kept l.journal q;
    }

abbrev pub reply : Ledger → List ℕ → Answer
reply l q = (step l.kept (length l.journal) q).answer
