-- What is demanded of every run with a journal, from any right opening table, with a journal of any length and with any requests, malformed
-- ones too. Every call is lent the same buffer, as the call before left it.
use Rattle.std.specs.Prelude.{ℕ, ◌+◌, ◌≤◌, ◌≡◌, ◌≢◌, Bool, true, false, ◌&&◌, List, ltb, length, take, drop}
use Rattle.runs.specs.Runs.{after, Exchanged}
use Rattle.wire.specs.Requests.{decode}
use Rattle.table.specs.Table.{wrong}
use Rattle.wire.specs.declared.Answer.TheVariants.{Refused}
use Rattle.board.specs.Rules as Rules
use Rattle.board.specs.declared.Board.{Board}
use Rattle.demands.specs.History.{RunReplays}
use Rattle.demands.specs.Demands.{changes_nothing, Apart}
use Rattle.demands.specs.Waiting.{RunNamesTheOldest}
use Rattle.demands.specs.Keeping.{RunKeepsItsAge, RunNoneBecomesOlder, RunOldestNeverYields}
use Rattle.records.specs.Records.{size_of, room}
use Rattle.journal.specs.Journal.{commits, asking, Ledger, opened, next, reply}

-- ---- refusal 15: exactly where room lacks

-- the board's own answer would be a commit, and with its records more bytes would be used than there is room for
abbrev pub lacks_room : Ledger → List ℕ → Bool
lacks_room l q =
    commits (Rules.reply l.kept.board q)
    && ltb (room (length l.journal)) (l.kept.used + size_of (asking l.kept (decode q)).written)

-- there it is refused, and nothing changes; elsewhere it is answered as without a journal
abbrev pub FifteenWhereRoomLacks : Type 0
FifteenWhereRoomLacks =
    (l : Ledger) (q : List ℕ)
    → (lacks_room l q ≡ true → (reply l q ≡ Refused 15) × (next l q ≡ l))
    × (lacks_room l q ≡ false → reply l q ≡ Rules.reply l.kept.board q)

-- and the board without a journal never gives it
abbrev pub NeverFifteen : Type 0
NeverFifteen = (b : Board) (q : List ℕ) → Rules.reply b q ≢ Refused 15

-- ---- a refusal, 15 too, or a wait changes neither the board nor the journal

abbrev pub Unchanged : Type 0
Unchanged = (l : Ledger) (q : List ℕ) → changes_nothing (reply l q) ≡ true → next l q ≡ l

-- ---- a request writes no byte but those that it comes to use

-- what is used grows within the room; the bytes used before and those not used then are as they were, and so is what lies past the first 65,536
pub record Kept (l l' : Ledger) : Type 0 where
  pub as_long : length l'.journal ≡ length l.journal
  pub grows : l.kept.used ≤ l'.kept.used
  pub fits : l'.kept.used ≤ room (length l'.journal)
  pub before : take l.kept.used l'.journal ≡ take l.kept.used l.journal
  pub unused : drop l'.kept.used l'.journal ≡ drop l'.kept.used l.journal
  pub past : drop 65536 l'.journal ≡ drop 65536 l.journal

abbrev pub KeepsOthers : Type 0
KeepsOthers =
    (table : List ℕ) → wrong table ≡ false → (journal : List ℕ) (before : List (List ℕ)) (q : List ℕ)
    → Kept (after next (opened table journal) before) (next (after next (opened table journal) before) q)

-- ---- the second demand: replaying the committed transactions in number order from the opening values
-- gives each read the value it was given and ends with the same values

abbrev pub Replays : Type 0
Replays =
    (table : List ℕ) → wrong table ≡ false → (journal : List ℕ) (requests : List (List ℕ))
    → RunReplays (λ l. l.kept.board.values) next reply (opened table journal) requests

-- ---- the third demand: two neighbouring requests that share nothing may be exchanged, and the journal's bytes are the same too

abbrev pub Exchanges : Type 0
Exchanges =
    (table : List ℕ) → wrong table ≡ false → (journal : List ℕ) (before : List (List ℕ)) (p q : List ℕ) (later : List (List ℕ))
    → Apart (after next (opened table journal) before).kept.board (decode p) (decode q)
    → Exchanged next reply (opened table journal) before p q later

-- ---- whom a desk waits for or yields to, and what its age is worth to it: as without a journal

abbrev board : Ledger → Board
board l = l.kept.board

abbrev pub NamesTheOldest : Type 0
NamesTheOldest = (table : List ℕ) → wrong table ≡ false → (journal : List ℕ) → RunNamesTheOldest board next reply (opened table journal)

abbrev pub KeepsItsAge : Type 0
KeepsItsAge = (table : List ℕ) → wrong table ≡ false → (journal : List ℕ) → RunKeepsItsAge board next reply (opened table journal)

abbrev pub NoneBecomesOlder : Type 0
NoneBecomesOlder = (table : List ℕ) → wrong table ≡ false → (journal : List ℕ) → RunNoneBecomesOlder board next (opened table journal)

abbrev pub OldestNeverYields : Type 0
OldestNeverYields = (table : List ℕ) → wrong table ≡ false → (journal : List ℕ) → RunOldestNeverYields board next reply (opened table journal)
