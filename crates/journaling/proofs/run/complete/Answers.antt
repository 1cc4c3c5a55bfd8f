-- Nothing was refused, so the board can be reached and the buffers have room; each holds what `fill` leaves.
use Prim.Native.Nat.{ℕ, ◌/◌}
use mathlib.Core.List.{List, ◌++◌}
use Rattle.journal.proofs.Kept.{reached_fresh}
use Rattle.journal.specs.Journal.{Ledger, opened}
use Rattle.journaling.proofs.Lent.{ledger_left, ledger_served}
use Rattle.journaling.specs.Run.{told}
use Rattle.lent.proofs.Refused.{accepted}
use Rattle.pieces.proofs.Eights.{eights_of-length}
use Rattle.pieces.specs.Pieces.{eights_in, four_each}
use Rattle.words.specs.Bytes.{Bytes}
use lib.IntN.{ℤ}
use borrow.Author.Rules.{rules}
use lib.ListN.{length, drop}
use mathlib.Core.Path.{◌≡◌, refl, ap, ◌∙◌}
use Rattle.journaling.proofs.run.complete.Goals as goal

pub fill-requires : goal.fill-requires
fill-requires c =
    let ok = accepted _ _ _ _ c.requires in
    let bytes : Bytes 1024 c.args.table.now = record { long = c.told-table; small = c.fits-table } in
    record { reached = rw c.fresh-kept.ensures.value (reached_fresh _ bytes ok.right); room = ok.room; wide = ok.wide }

told_alike : {z z' : ℤ} {a a' v v' j j' : List ℕ} → z ≡ z' → a ≡ a' → v ≡ v' → j ≡ j' → told z a v j ≡ told z' a' v' j'
told_alike e f g h = λ i. told (e i) (f i) (g i) (h i)

pub returns : goal.returns
returns c =
    let a = c.args in
    let q = a.requests.now in
    let n : length (eights_in q) ≡ length q / 8 = eights_of-length q (length q / 8) in
    let began : record { kept = c.fresh-kept.result; journal = c.fresh-kept.new.journal } ≡ opened a.table.now a.journal.now = λ i. record { kept = c.fresh-kept.ensures.value i; journal = c.fresh-kept.ensures.journal_after i } in
    let left = ledger_left _ (eights_in q) c.fill.ensures.value in
    let same = left.1 in
    rw (n, ← began)
    (told_alike refl (c.fill.ensures.answers_after ∙ rw ledger_served)
    (c.fill.ensures.values_after ∙ ap (λ (l : Ledger). four_each l.kept.board.values ++ drop 256 a.values.now) left.0)
    (search rules ∙ c.drop-ledger.ensures ∙ ap (λ (l : Ledger). l.journal) left.0))
