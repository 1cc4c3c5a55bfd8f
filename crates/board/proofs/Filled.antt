-- The laws of `filled p f n vs`: f in place of vs at each of the first n places that passes the test p. Columns and installed copies are such lists.
use mathlib.Core.Path.{◌≡◌, refl, sym, ◌∙◌}
use mathlib.Core.Bool.{Bool, true, false, cond}
use mathlib.Core.List.{List}
use Prim.Native.Nat.{ℕ, zero, suc, ◌<◌}
use native.Mathlib.Omega.{arith}
use lib.ListN.{get_or, length, length-set, replicate}
use lib.Seq.{get_or-set_same, get_or-set_other, ext_get_or}
use Rattle.items.proofs.Tests.{by_test, by_cond, by_equal, clash}
use Rattle.board.specs.Rules.{filled}
use Rattle.board.specs.Opening.{column, gathered}

module _ (p : ℕ → Bool) (f : ℕ → ℕ) where
  pub filled-length : (n : ℕ) (vs : List ℕ) → length (filled p f n vs) ≡ length vs
  unfolding filled
  filled-length zero vs = refl
  filled-length (suc n) vs =
      by_cond (λ (l : List ℕ). length l ≡ length vs) (p n)
      (λ e. length-set (filled p f n vs) n (f n) ∙ filled-length n vs) (λ e. filled-length n vs)

  -- a place that does not pass, or is not among the first n
  pub filled_other : (n : ℕ) (vs : List ℕ) (j : ℕ) → (j < n → p j ≡ false) → get_or (filled p f n vs) j 0 ≡ get_or vs j 0
  unfolding filled
  filled_other zero vs j out = refl
  filled_other (suc n) vs j out =
      by_cond (λ (l : List ℕ). get_or l j 0 ≡ get_or vs j 0) (p n)
      (λ e.
      get_or-set_other (filled p f n vs) n j (f n) 0 (λ q. clash e (rw q at (out (omega arith)))) ∙ filled_other n vs j (λ h. out (omega arith)))
      (λ e. filled_other n vs j (λ h. out (omega arith)))

  -- a place that passes
  pub filled_same : (n : ℕ) (vs : List ℕ) (j : ℕ) → j < n → j < length vs → p j ≡ true → get_or (filled p f n vs) j 0 ≡ f j
  unfolding filled
  filled_same zero vs j h l t = absurd (omega arith)
  filled_same (suc n) vs j h l t =
      by_equal j n
      (λ q. rw (← q, t) (get_or-set_same (filled p f j vs) j (f j) 0 (rw (filled-length j vs) l)))
      (λ q.
      let before : get_or (filled p f n vs) j 0 ≡ f j = filled_same n vs j (omega arith) l t in
      by_cond (λ (l : List ℕ). get_or l j 0 ≡ f j) (p n) (λ e. get_or-set_other (filled p f n vs) n j (f n) 0 q ∙ before) (λ e. before))

  pub filled_at : (n : ℕ) (vs : List ℕ) (j : ℕ) → j < n → j < length vs → get_or (filled p f n vs) j 0 ≡ cond (p j) (f j) (get_or vs j 0)
  filled_at n vs j h l =
      by_test (p j) (λ t. filled_same n vs j h l t ∙ rw t refl) (λ t. filled_other n vs j (λ i. t) ∙ rw t refl)

-- ---- a number for each of the 64 items, and the items gathered by a test

module _ (f : ℕ → ℕ) where
  pub column-length : length (column f) ≡ 64
  column-length = filled-length (λ i. true) f 64 (replicate 64 0)

  pub column_at : (i : ℕ) → i < 64 → get_or (column f) i 0 ≡ f i
  column_at i h = filled_same (λ i. true) f 64 (replicate 64 0) i h h refl

  -- it is the list of 64 that has these numbers
  pub column_is : (vs : List ℕ) → length vs ≡ 64 → ((i : ℕ) → i < 64 → f i ≡ get_or vs i 0) → column f ≡ vs
  column_is vs long same =
      ext_get_or 0 (column f) vs (column-length ∙ sym long) (λ i h. column_at i (omega (arith, column-length)) ∙ same i (omega (arith, column-length)))

pub gathered_same : (p q : ℕ → Bool) (n : ℕ) → ((i : ℕ) → p i ≡ q i) → gathered p n ≡ gathered q n
unfolding gathered
gathered_same p q zero same = refl
gathered_same p q (suc n) same = rw (same n, gathered_same p q n same)
