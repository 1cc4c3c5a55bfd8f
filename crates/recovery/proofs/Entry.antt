-- What is read of a commit's records: the commit is whole, and the values are those with its copies installed.
use Prim.Native.Nat.{ℕ, zero, suc, ◌+◌, ◌*◌, ◌/◌, ◌%◌, ◌≤◌, ◌<◌}
use mathlib.Core.Path.{◌≡◌, refl, ap, sym, ◌∙◌}
use mathlib.Core.Bool.{true, false}
use mathlib.Core.List.{List, [], ◌∷◌, ◌++◌}
use native.Mathlib.Omega.{arith}
use borrow.Author.Tests.{eq-eqb, le-leb}
use Rattle.items.specs.Items.{has, count_below}
use Rattle.items.specs.declared.Items.{Items}
use Rattle.items.proofs.Tests.{by_test}
use Rattle.runs.specs.Runs.{after}
use Rattle.words.proofs.Fours.{four_tell}
use Rattle.table.specs.Table.{floor_at, ceiling_at}
use Rattle.board.specs.Rules.{filled, installed}
use Rattle.records.specs.Records.{record_of, item_record, item_records, entry}
use Rattle.records.proofs.Sizes.{count_below_lem}
use Rattle.restart.specs.Restart.{Reading, value_in, fits_item, fits_closing, read}
use Rattle.restart.proofs.Fitting.{by_ceiling, by_count, no_item}
use Rattle.restart.proofs.Steps.{takes, closes}

pub after_two : {S Q : Type 0} (next : S → Q → S) (s : S) (ps qs : List Q) → after next s (ps ++ qs) ≡ after next (after next s ps) qs
after_two next s [] qs = refl
after_two next s (p ∷ ps) qs = after_two next (next s p) ps qs

-- a reading between two commits: n of them, and the values after them
abbrev pub clean : ℕ → List ℕ → Reading
clean n vs = record { commits = n; whole = vs; items = 0; next = 0; values = vs; stopped = false }

-- ---- a record is read back

number_back : (n : ℕ) → n < 65536 → n % 256 + 256 * (n / 256 % 256) ≡ n
number_back n h = omega arith

module _ (t : List ℕ) (w : Items) (f : ℕ → ℕ) (c : ℕ) (vs : List ℕ) (numbered : c + 1 < 65536)
    (low : (i : ℕ) → i < 64 → has w i ≡ true → floor_at t i ≤ f i)
    (high : (i : ℕ) → i < 64 → has w i ≡ true → f i ≤ ceiling_at t i)
    (small : (i : ℕ) → i < 64 → has w i ≡ true → f i < 4294967296) where
  -- within the commit: the items below i are read
  abbrev reading : ℕ → ℕ → Reading
  reading i next = record { commits = c; whole = vs; items = count_below w i; next = next; values = filled (has w) f i vs; stopped = false }

  -- the record of item i, which is in w
  one_item : (i next : ℕ) → i < 64 → next ≤ i → has w i ≡ true → read t (reading i next) (record_of 1 i (c + 1) (f i)) ≡ reading (suc i) (i + 1)
  unfolding count_below filled
  one_item i next h l e =
      let at = reading i next in
      let r = record_of 1 i (c + 1) (f i) in
      let value : value_in r ≡ f i = four_tell (f i) (small i h e) in
      let floor : floor_at t i ≤ value_in r = rw value (low i h e) in
      let ceiling : value_in r ≤ ceiling_at t i = rw value (high i h e) in
      let fits : fits_item t at r ≡ true = sym (by_ceiling t at r refl l (omega arith) (number_back (c + 1) numbered) floor (value_in r) (ceiling_at t i) refl refl) ∙ le-leb (value_in r) (ceiling_at t i) ceiling in
      sym (takes t at r refl fits (f i) (i + 1) (sym value) refl) ∙ rw e

  -- some item may come next that is no higher than i
  items_read : (i : ℕ) → i ≤ 64 → (next : ℕ) × ((next ≤ i) × (after (read t) (clean c vs) (item_records w f (c + 1) i) ≡ reading i next))
  unfolding item_records count_below filled
  items_read zero h = (0, (omega arith, refl))
  items_read (suc i) h =
      let before = items_read i (omega arith) in
      let next = before.0 in
      let items = item_records w f (c + 1) i in
      let r = record_of 1 i (c + 1) (f i) in
      by_test (has w i)
      (λ yes.
      let one : item_record w i (c + 1) (f i) ≡ r ∷ [] = rw yes in (
        i + 1,
        (
          omega arith,
          after_two (read t) (clean c vs) items (item_record w i (c + 1) (f i)) ∙ ap (after (read t) (after (read t) (clean c vs) items)) one
              ∙ ap (λ (at : Reading). read t at r) before.1.1 ∙ one_item i next (omega arith) before.1.0 yes,
        ),
      ))
      (λ no.
      let none : item_record w i (c + 1) (f i) ≡ [] = rw no in
      let counted : count_below w i ≡ count_below w (suc i) = rw no (omega arith) in
      let same : filled (has w) f i vs ≡ filled (has w) f (suc i) vs = rw no in (
        next,
        (
          omega (arith, before.1.0),
          after_two (read t) (clean c vs) items (item_record w i (c + 1) (f i)) ∙ ap (after (read t) (after (read t) (clean c vs) items)) none
              ∙ before.1.1 ∙ (λ k. record { commits = c; whole = vs; items = counted k; next = next; values = same k; stopped = false }),
        ),
      ))

  pub entry_read : after (read t) (clean c vs) (entry w f (c + 1)) ≡ clean (c + 1) (installed w f vs)
  entry_read =
      let all = items_read 64 (omega arith) in
      let at = reading 64 all.0 in
      let r = record_of 2 0 (c + 1) (count_below w 64) in
      let count : value_in r ≡ count_below w 64 = four_tell (count_below w 64) (omega (arith, count_below_lem w 64)) in
      let fits : fits_closing at r ≡ true = sym (by_count at r refl refl (number_back (c + 1) numbered) (value_in r) refl) ∙ eq-eqb (value_in r) (count_below w 64) count in
      after_two (read t) (clean c vs) (item_records w f (c + 1) 64) (r ∷ []) ∙ ap (λ (x : Reading). read t x r) all.1.1
      ∙ sym (closes t at r refl (sym (no_item t at r (omega arith))) fits (c + 1) refl)
