-- The laws of `first n f`, the least number below n that passes the test f, and n where none does; of `any` and `every`.
-- Whoever searches by a loop cites `first_is`; whoever is told `first n f` cites `first_passes` and `first_before`.
use mathlib.Core.Path.{◌≡◌, refl, ap, ◌∙◌, sym}
use mathlib.Core.Bool.{Bool, true, false, not, true≢false}
use Prim.Native.Nat.{ℕ, zero, suc, ◌+◌, ◌≤◌, ◌<◌, zero-le, suc-le-suc}
use native.Mathlib.Nat.{le_of_suc-le-suc, not-suc-le-zero, zero-lt-suc, le_refl, lt_irrefl}
use native.Mathlib.Omega.{arith}
use borrow.Author.Count.{below_more}
use borrow.Author.Tests.{ltb-true, ltb-false, le-ltb, lt-ltb, not-true, not-false}
use Rattle.std.specs.Prelude.{Some, None, ltb}
use Rattle.std.proofs.lemmas.Option.{none-some, same_Some}
use Rattle.items.specs.First.{found, first, any, every}
use Rattle.items.proofs.Tests.{by_test, clash}

module _ (n : ℕ) (f : ℕ → Bool) where
  pub first_here : f zero ≡ true → first (suc n) f ≡ zero
  unfolding first
  first_here e = rw (e, first)

  pub first_later : f zero ≡ false → first (suc n) f ≡ suc (first n (λ i. f (suc i)))
  unfolding first
  first_later e = rw (e, first)

pub first_le : (n : ℕ) (f : ℕ → Bool) → first n f ≤ n
unfolding first
first_le zero f = zero-le
first_le (suc n) f =
    by_test (f zero) (λ e. rw (first_here n f e) zero-le)
    (λ e. rw (first_later n f e) (suc-le-suc (first_le n (λ i. f (suc i)))))

-- nothing below it passes
pub first_before : (n : ℕ) (f : ℕ → Bool) (k : ℕ) → k < first n f → f k ≡ false
unfolding first
first_before zero f k h = absurd (not-suc-le-zero h)
first_before (suc n) f zero h =
    by_test (f zero) (λ e. absurd (not-suc-le-zero (rw (first_here n f e) at h))) (λ e. e)
first_before (suc n) f (suc k) h =
    by_test (f zero) (λ e. absurd (not-suc-le-zero (rw (first_here n f e) at h)))
    (λ e. first_before n (λ i. f (suc i)) k (le_of_suc-le-suc (rw (first_later n f e) at h)))

-- it passes itself, unless there is none
pub first_passes : (n : ℕ) (f : ℕ → Bool) → first n f < n → f (first n f) ≡ true
unfolding first
first_passes zero f h = absurd (not-suc-le-zero h)
first_passes (suc n) f h =
    by_test (f zero) (λ e. rw (first_here n f e) e)
    (λ e. rw (first_later n f e) (first_passes n (λ i. f (suc i)) (le_of_suc-le-suc (rw (first_later n f e) at h))))

-- there is only one such number: what a search has found is `first`
pub first_is : (n : ℕ) (f : ℕ → Bool) (r : ℕ) → r ≤ n → (r < n → f r ≡ true) → ((k : ℕ) → k < r → f k ≡ false) → r ≡ first n f
unfolding first
first_is zero f zero h found before = refl
first_is zero f (suc r) h found before = absurd (not-suc-le-zero h)
first_is (suc n) f zero h found before = sym (first_here n f (found (zero-lt-suc n)))
first_is (suc n) f (suc r) h found before =
    ap suc (first_is n (λ i. f (suc i)) r (le_of_suc-le-suc h) (λ l. found (suc-le-suc l)) (λ k l. before (suc k) (suc-le-suc l)))
    ∙ sym (first_later n f (before zero (zero-lt-suc r)))

-- none passes
pub first_none : (n : ℕ) (f : ℕ → Bool) → ((k : ℕ) → k < n → f k ≡ false) → n ≡ first n f
first_none n f = first_is n f n (le_refl n) (λ h. absurd (lt_irrefl n h))

-- ---- a loop that looks at 0, 1, .. and stops at the first that passes: its invariant, and what it gives

-- k is next, and none below it passes
pub record Passed (n : ℕ) (f : ℕ → Bool) (k : ℕ) : Type 0 where
  pub within : k ≤ n
  pub before : (j : ℕ) → j < k → f j ≡ false

module _ (n : ℕ) (f : ℕ → Bool) where
  pub passed_none : Passed n f 0
  passed_none = record { within = zero-le; before = λ j h. absurd (not-suc-le-zero h) }

  pub passed_one : (k : ℕ) → Passed n f k → k < n → f k ≡ false → Passed n f (k + 1)
  passed_one k p h e = record { within = omega arith; before = below_more (λ j. f j ≡ false) k p.before e }

  pub stopped : (k : ℕ) → Passed n f k → f k ≡ true → k ≡ first n f
  stopped k p e = first_is n f k p.within (λ h. e) p.before

  pub passed_all : (k : ℕ) → Passed n f k → n ≤ k → k ≡ first n f
  passed_all k p h = first_is n f k p.within (λ l. absurd (omega arith)) p.before

-- ---- some, and each

module _ (n : ℕ) (f : ℕ → Bool) where
  pub any_first : any n f ≡ true → first n f < n
  unfolding any
  any_first e = ltb-true (first n f) n e

  pub any_none : ((k : ℕ) → k < n → f k ≡ false) → any n f ≡ false
  unfolding any
  any_none out = le-ltb (first n f) n (omega (arith, first_none n f out))

  pub none_any : any n f ≡ false → (k : ℕ) → k < n → f k ≡ false
  unfolding any
  none_any e k h = first_before n f k (omega (arith, ltb-false (first n f) n e))

  pub any_is : (k : ℕ) → k < n → f k ≡ true → any n f ≡ true
  any_is k h e = by_test (any n f) (λ t. t) (λ o. absurd (true≢false (sym e ∙ none_any o k h)))

module _ (n : ℕ) (f : ℕ → Bool) where
  pub every_at : every n f ≡ true → (k : ℕ) → k < n → f k ≡ true
  unfolding every
  every_at e k h = not-false (f k) (none_any n (λ i. not (f i)) (not-true _ e) k h)

  pub every_is : ((k : ℕ) → k < n → f k ≡ true) → every n f ≡ true
  unfolding every
  every_is all = ap not (any_none n (λ i. not (f i)) (λ k h. ap not (all k h)))

  pub every_not : (k : ℕ) → k < n → f k ≡ false → every n f ≡ false
  every_not k h e = by_test (every n f) (λ t. clash (every_at t k h) e) (λ o. o)

-- ---- a place that was looked for

pub found_some : {n i : ℕ} → i < n → Some i ≡ found n i
found_some {n} {i} h = rw (lt-ltb i n h)

pub none_found : (n i : ℕ) → found n i ≡ None → n ≤ i
none_found n i e = by_test (ltb i n) (λ t. absurd (none-some i (sym e ∙ rw t))) (λ f. ltb-false i n f)

pub some_found : (n i j : ℕ) → found n i ≡ Some j → (i < n) × (i ≡ j)
some_found n i j e =
    by_test (ltb i n) (λ t. (ltb-true i n t, same_Some i j (rw t at e))) (λ f. absurd (none-some j (rw f at e)))
