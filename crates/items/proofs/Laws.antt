-- The laws of sets of items. Every proof over sets goes by these, and leaves the definitions of specs/Items.antt shut.
-- Only `same_items` and `empty_zero` ask that a set is a word of 64 digits: no other law does.
use mathlib.Core.Path.{◌≡◌, refl, ap, ◌∙◌, sym}
use mathlib.Core.Logic.{◌≢◌}
use mathlib.Core.Bool.{Bool, true, false, ◌&&◌, ◌||◌, not, or-true, or-false, and-true, and-false, true≢false}
use Prim.Native.Nat.{ℕ, ◌^◌, ◌≤◌, ◌<◌}
use borrow.Author.Tests.{eq-eqb, ne_eqb, not-true, not-false}
use native.Mathlib.Omega.{arith}
use lib.Bits.{and_lt, or_lt, xor_lt}
use lib.Count.{count_trailing_zeros}
use lib.Dec.{eqb, lit<}
use lib.Pow.{pow-lt}
use Rattle.std.specs.Prelude.{Some, None}
use Rattle.items.specs.First.{found}
use Rattle.items.specs.Items.{has, none, with, without, common, joined, empty, lowest}
use Rattle.items.specs.declared.Items.{Items}
use Rattle.items.proofs.Tests.{by_test, and_left, and_right, or_left}
use Rattle.items.proofs.First.{first_le, first_before, first_passes, first_is, first_none, any_first, any_none, none_any, any_is, some_found, none_found}
use Rattle.items.proofs.Digits.{set_zero, set_and, set_or, set_less, set_pow, same_digits, trailing_first}

-- ---- what is in a set

pub has-none : (i : ℕ) → has none i ≡ false
unfolding has
has-none i = set_zero i

pub has-common : (s t : Items) (i : ℕ) → has (common s t) i ≡ (has s i && has t i)
unfolding has common
has-common s t i = set_and s.0 t.0 i

pub has-joined : (s t : Items) (i : ℕ) → has (joined s t) i ≡ (has s i || has t i)
unfolding has joined
has-joined s t i = set_or s.0 t.0 i

pub has-with : (s : Items) (i j : ℕ) → has (with s i) j ≡ (has s j || eqb i j)
unfolding has with
has-with s i j = set_or s.0 (2 ^ i) j ∙ ap (λ (b : Bool). has s j || b) (set_pow i j)

pub has-without : (s : Items) (i j : ℕ) → has (without s i) j ≡ (has s j && not (eqb i j))
unfolding has without
has-without s i j = set_less s.0 (2 ^ i) j ∙ ap (λ (b : Bool). has s j && not b) (set_pow i j)

-- in both, in each
pub common_left : (s t : Items) (i : ℕ) → has (common s t) i ≡ true → has s i ≡ true
common_left s t i e = and_left (has s i) (has t i) (sym (has-common s t i) ∙ e)

pub common_right : (s t : Items) (i : ℕ) → has (common s t) i ≡ true → has t i ≡ true
common_right s t i e = and_right (has s i) (has t i) (sym (has-common s t i) ∙ e)

module _ (s : Items) (i : ℕ) where
  pub with_same : has (with s i) i ≡ true
  with_same = has-with s i i ∙ ap (λ (b : Bool). has s i || b) (eq-eqb i i refl) ∙ or-true (has s i)

  pub with_other : (j : ℕ) → j ≢ i → has (with s i) j ≡ has s j
  with_other j n = has-with s i j ∙ ap (λ (b : Bool). has s j || b) (ne_eqb i j (λ e. n (sym e))) ∙ or-false (has s j)

  pub with_less : (j : ℕ) → has (with s i) j ≡ false → has s j ≡ false
  with_less j e = or_left (has s j) (eqb i j) (sym (has-with s i j) ∙ e)

  pub without_same : has (without s i) i ≡ false
  without_same = has-without s i i ∙ ap (λ (b : Bool). has s i && not b) (eq-eqb i i refl) ∙ and-false (has s i)

  pub without_other : (j : ℕ) → j ≢ i → has (without s i) j ≡ has s j
  without_other j n = has-without s i j ∙ ap (λ (b : Bool). has s j && not b) (ne_eqb i j (λ e. n (sym e))) ∙ and-true (has s j)

-- ---- a set is a word: what is in it says which set it is

pub same_items : (s t : Items) → s.0 < 2 ^ 64 → t.0 < 2 ^ 64 → ((i : ℕ) → i < 64 → has s i ≡ has t i) → s ≡ t
unfolding has
same_items s t hs ht same = ap (λ (n : ℕ). record { 0 = n }) (same_digits 64 s.0 t.0 hs ht same)

pub none-word : none.0 < 2 ^ 64
none-word = lit< tt

pub common-word : (s t : Items) → s.0 < 2 ^ 64 → t.0 < 2 ^ 64 → (common s t).0 < 2 ^ 64
unfolding common
common-word s t = and_lt 64 s.0 t.0

pub joined_word : (s t : Items) → s.0 < 2 ^ 64 → t.0 < 2 ^ 64 → (joined s t).0 < 2 ^ 64
unfolding joined
joined_word s t = or_lt 64 s.0 t.0

pub with-word : (s : Items) (i : ℕ) → s.0 < 2 ^ 64 → i < 64 → (with s i).0 < 2 ^ 64
unfolding with
with-word s i hs h = or_lt 64 s.0 (2 ^ i) hs (pow-lt h)

pub without-word : (s : Items) (i : ℕ) → s.0 < 2 ^ 64 → i < 64 → (without s i).0 < 2 ^ 64
unfolding without
without-word s i hs h = xor_lt 64 s.0 _ hs (and_lt 64 s.0 (2 ^ i) hs (pow-lt h))

-- ---- the lowest item

pub lowest_le : (s : Items) → lowest s ≤ 64
unfolding lowest
lowest_le s = first_le 64 (has s)

pub lowest_in : (s : Items) → lowest s < 64 → has s (lowest s) ≡ true
unfolding lowest
lowest_in s = first_passes 64 (has s)

pub lowest_before : (s : Items) (k : ℕ) → k < lowest s → has s k ≡ false
unfolding lowest
lowest_before s = first_before 64 (has s)

-- a least item, or 64 where there is none, is the lowest
pub lowest_is : (s : Items) (r : ℕ) → r ≤ 64 → (r < 64 → has s r ≡ true) → ((k : ℕ) → k < r → has s k ≡ false) → r ≡ lowest s
unfolding lowest
lowest_is s = first_is 64 (has s)

pub lowest_none : lowest none ≡ 64
unfolding lowest
lowest_none = sym (first_none 64 (has none) (λ k h. has-none k))

-- the machine's count finds it, of any set
pub count_lowest : (s : Items) → count_trailing_zeros 64 s.0 ≡ lowest s
unfolding lowest has
count_lowest s = trailing_first 64 s.0

-- ---- the empty set

pub empty-has : (s : Items) → empty s ≡ true → (i : ℕ) → i < 64 → has s i ≡ false
unfolding empty
empty-has s e = none_any 64 (has s) (not-true _ e)

pub empty_is : (s : Items) → ((i : ℕ) → i < 64 → has s i ≡ false) → empty s ≡ true
unfolding empty
empty_is s out = ap not (any_none 64 (has s) out)

-- an item of t is in no set that has nothing in common with t
pub common-none : (s t : Items) → empty (common s t) ≡ true → (i : ℕ) → i < 64 → has t i ≡ true → has s i ≡ false
common-none s t e i l h = sym (and-true (has s i)) ∙ rw (← h) (sym (has-common s t i)) ∙ empty-has (common s t) e i l

pub empty-none : empty none ≡ true
empty-none = empty_is none (λ i h. has-none i)

pub lowest_empty : (s : Items) → empty s ≡ true → lowest s ≡ 64
unfolding lowest
lowest_empty s e = sym (first_none 64 (has s) (empty-has s e))

-- so it is found unless the set is empty
pub lowest_found : (s : Items) → empty s ≡ false → lowest s < 64
unfolding lowest empty
lowest_found s e = any_first 64 (has s) (not-false _ e)

-- what is found tells whether it is empty, and which item is the lowest
pub lowest_some : (s : Items) (i : ℕ) → found 64 (lowest s) ≡ Some i → (empty s ≡ false) × (lowest s ≡ i)
lowest_some s i e =
    let f : (lowest s < 64) × (lowest s ≡ i) = some_found 64 (lowest s) i e in
    (by_test (empty s) (λ t. absurd (let none = lowest_empty s t in let some = f.0 in omega arith)) (λ f. f), f.1)

pub lowest_nothing : (s : Items) → found 64 (lowest s) ≡ None → empty s ≡ true
lowest_nothing s e =
    by_test (empty s) (λ t. t)
    (λ f. absurd (let low = lowest_found s f in let high = none_found 64 (lowest s) e in omega arith))

-- some item is in it
pub filled_is : (s : Items) (i : ℕ) → i < 64 → has s i ≡ true → empty s ≡ false
unfolding empty
filled_is s i h e = ap not (any_is 64 (has s) i h e)

pub filled-lowest : (s : Items) → empty s ≡ false → lowest s < 64
unfolding empty lowest
filled-lowest s e = any_first 64 (has s) (not-false _ e)

pub filled-has : (s : Items) → empty s ≡ false → has s (lowest s) ≡ true
filled-has s e = lowest_in s (filled-lowest s e)

-- of a word the test is one comparison
pub empty_zero : (s : Items) → s.0 < 2 ^ 64 → empty s ≡ eqb s.0 0
empty_zero s h =
    by_test (empty s)
    (λ e. e ∙ sym (eq-eqb s.0 0 (ap (λ (t : Items). t.0) (same_items s none h none-word (λ i l. empty-has s e i l ∙ sym (has-none i))))))
    (λ e. e ∙ sym (ne_eqb s.0 0 (λ z. true≢false (sym empty-none ∙ ap (λ (n : ℕ). empty (record { 0 = n })) (sym z) ∙ e))))
