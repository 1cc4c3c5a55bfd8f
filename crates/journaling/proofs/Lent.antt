-- A run on a ledger whose journal is lent: what it leaves and answers is the ledger's, and the same buffer is still lent.
use Prim.Native.Nat.{ℕ}
use mathlib.Core.Path.{◌≡◌, refl, ap, ◌∙◌}
use mathlib.Core.List.{List, [], ◌∷◌}
use Rattle.runs.specs.Runs.{after}
use Rattle.wire.specs.declared.Answer.{Answer}
use Rattle.lent.specs.Served.{twelve_each, served}
use Rattle.journal.specs.Journal.{next, reply}
use Rattle.journaling.specs.Lent.{ledger, next_lent}
use Rattle.journaling.specs.declared.lending.LentLedger.{LentLedger}

abbrev reply_lent : LentLedger → List ℕ → Answer
reply_lent l q = reply (ledger l) q

ledger_after : (l : LentLedger) (qs : List (List ℕ)) → ledger (after next_lent l qs) ≡ after next (ledger l) qs
ledger_after l [] = refl
ledger_after l (q ∷ qs) = ledger_after (next_lent l q) qs

still_lent : (l : LentLedger) (qs : List (List ℕ)) → (after next_lent l qs).journal.ghost_name ≡ l.journal.ghost_name
still_lent l [] = refl
still_lent l (q ∷ qs) = still_lent (next_lent l q) qs

pub ledger_served : (l : LentLedger) (qs : List (List ℕ)) → served next_lent reply_lent l qs ≡ served next reply (ledger l) qs
unfolding twelve_each
ledger_served l [] = refl
ledger_served l (q ∷ qs) = rw (ledger_served (next_lent l q) qs)

-- what a run from l leaves
pub ledger_left : (l : LentLedger) (qs : List (List ℕ)) {last : LentLedger} → last ≡ after next_lent l qs → (ledger last ≡ after next (ledger l) qs) × (last.journal.ghost_name ≡ l.journal.ghost_name)
ledger_left l qs {last} e = (ap ledger e ∙ ledger_after l qs, ap (λ (d : LentLedger). d.journal.ghost_name) e ∙ still_lent l qs)
