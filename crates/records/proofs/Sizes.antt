-- How long a commit's records are: 8 bytes for each item written, and 8.
use Prim.Native.Nat.{ℕ, zero, suc, ◌+◌, ◌*◌, ◌≤◌}
use mathlib.Core.Path.{◌≡◌, refl}
use mathlib.Core.Bool.{cond}
use mathlib.Core.List.{List, [], ◌∷◌, ◌++◌, append_assoc}
use native.Mathlib.Omega.{arith}
use native.Mathlib.Numerals.{add-one}
use borrow.Author.Tests.{ltb-true, ltb-false}
use lib.Dec.{ltb}
use lib.ListN.{length, length-append}
use Rattle.items.specs.Items.{has, count_below}
use Rattle.items.specs.declared.Items.{Items}
use Rattle.items.proofs.Tests.{by_test, by_cond, by_equal}
use Rattle.pieces.specs.Pieces.{in_one}
use Rattle.records.specs.Records.{item_record, item_records, entry, size_of, room}

-- pieces in one, one after another
pub in_one-append : (ps qs : List (List ℕ)) → in_one (ps ++ qs) ≡ in_one ps ++ in_one qs
in_one-append [] qs = refl
in_one-append (p ∷ ps) qs = rw (in_one-append ps qs, append_assoc)

module _ (w : Items) where
  pub count_suc : (i : ℕ) → count_below w (i + 1) ≡ count_below w i + cond (has w i) 1 0
  unfolding count_below
  count_suc i = rw add-one

  pub items_suc : (f : ℕ → ℕ) (n i : ℕ) → in_one (item_records w f n (i + 1)) ≡ in_one (item_records w f n i) ++ in_one (item_record w i n (f i))
  unfolding item_records
  items_suc f n i = rw add-one (in_one-append (item_records w f n i) (item_record w i n (f i)))

  pub item_length : (i n v : ℕ) → length (in_one (item_record w i n v)) ≡ 8 * cond (has w i) 1 0
  item_length i n v = by_test (has w i) (λ e. rw e refl) (λ e. rw e refl)

  pub items_length : (f : ℕ → ℕ) (n i : ℕ) → length (in_one (item_records w f n i)) ≡ 8 * count_below w i
  unfolding item_records count_below
  items_length f n zero = refl
  items_length f n (suc i) =
      rw (in_one-append, length-append) (omega (arith, items_length f n i, item_length i n (f i)))

  -- no more than there are
  pub count_most : (i m : ℕ) → i ≤ m → count_below w i ≤ count_below w m
  unfolding count_below
  count_most i zero h = let e : i ≡ 0 = omega arith in rw e (omega arith)
  count_most i (suc m) h = by_equal i (suc m) (λ e. rw e (omega arith)) (λ ne. omega (arith, count_most i m (omega arith)))

  pub count_below_lem : (i : ℕ) → count_below w i ≤ i
  unfolding count_below
  count_below_lem zero = omega arith
  count_below_lem (suc i) = by_test (has w i) (λ e. rw e (omega (arith, count_below_lem i))) (λ e. rw e (omega (arith, count_below_lem i)))

  pub entry_length : (f : ℕ → ℕ) (n : ℕ) → length (in_one (entry w f n)) ≡ size_of w
  entry_length f n = rw (in_one-append, length-append) (omega (arith, items_length f n 64))

-- ---- the buffer that holds them

module _ (n : ℕ) where
  pub room_most : room n ≤ 65536
  room_most = by_cond (λ (m : ℕ). m ≤ 65536) (ltb 65536 n) (λ t. omega arith) (λ f. ltb-false 65536 n f)

  pub room_within : room n ≤ n
  room_within = by_cond (λ (m : ℕ). m ≤ n) (ltb 65536 n) (λ t. omega (arith, ltb-true 65536 n t)) (λ f. omega arith)
