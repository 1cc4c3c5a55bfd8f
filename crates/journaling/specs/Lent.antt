-- A board and the journal that is lent with it.
use Rattle.std.specs.Prelude.{ℕ, List}
use Rattle.journal.specs.Journal.{Ledger, next}
use Rattle.journaling.specs.declared.lending.LentLedger.{LentLedger}

abbrev pub ledger : LentLedger → Ledger
ledger l = record { kept = l.kept; journal = l.journal.now }

-- a request leaves the same buffer lent
abbrev pub next_lent : LentLedger → List ℕ → LentLedger
next_lent l q =
    let left = next (ledger l) q in
    record l { kept = left.kept; journal = record l.journal { now = left.journal } }
