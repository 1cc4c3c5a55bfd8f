-- The same run by one call for each request: what hub_open_journal and hub_step_journal promise, and what hub_run_journal promises, are one thing.
use Rattle.std.specs.Prelude.{ℕ, ◌*◌, ◌≤◌, ◌≡◌, false, List, ◌++◌, pos, length, drop}
use Rattle.runs.specs.Runs.{after}
use Rattle.words.specs.Bytes.{Bytes}
use Rattle.table.specs.Table.{wrong}
use Rattle.board.specs.Reached.{Eights}
use Rattle.pieces.specs.Pieces.{in_one, four_each}
use Rattle.lent.specs.Served.{written}
use Rattle.journal.specs.Journal.{journal_after, Ledger}
use Rattle.journal.specs.Reached.{Reached}
use Rattle.fresh.specs.Fresh.{opened_by, journal_opened}
use Rattle.journaling.specs.Run.{told, outcome, stepped_by}
use Rattle.journal.specs.declared.Journaled.{Journaled}

-- the board and the journal that a call of hub_step_journal leaves
abbrev pub left : Ledger → List ℕ → Ledger
left l q = record { kept = (stepped_by l.kept (length l.journal) q).board; journal = journal_after l.kept l.journal q }

-- and the answer that it writes
abbrev pub answer : Ledger → List ℕ → List ℕ
answer l q = (stepped_by l.kept (length l.journal) q).bytes

-- a right table opens a board that hub_step_journal may be given, whatever stood there; a wrong one takes none away; and hub_step_journal
-- leaves such a board, over a journal of any length
abbrev pub OpenReaches : Type 0
OpenReaches = (s : Journaled) (t : List ℕ) → Bytes 1024 t → wrong t ≡ false → Reached (opened_by s t).board

abbrev pub OpenKeeps : Type 0
OpenKeeps = (s : Journaled) (t : List ℕ) → Bytes (length t) t → Reached s → Reached (opened_by s t).board

abbrev pub StepKeeps : Type 0
StepKeeps = (s : Journaled) (n : ℕ) (q : List ℕ) → Bytes 8 q → Reached s → Reached (stepped_by s n q).board

-- for every right table and requests of 8 bytes up to the limits, the calls write the bytes of the run, the journal's included
abbrev pub CallsAreRun : Type 0
CallsAreRun =
    (s : Journaled) (t : List ℕ) → wrong t ≡ false → (qs : List (List ℕ)) → Eights qs → length qs ≤ 4096
    → (a v j : List ℕ) → 12 * length qs ≤ length a → 256 ≤ length v
    → let o : Ledger = record { kept = (opened_by s t).board; journal = journal_opened t j } in
    let last = after left o qs in
    outcome t (in_one qs) a v j
    ≡ told (pos (length qs)) (written left answer o qs ++ drop (12 * length qs) a) (four_each last.kept.board.values ++ drop 256 v) last.journal
