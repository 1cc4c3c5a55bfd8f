-- The laws of `eldest p age n`: of the desks below n that the test p picks, the one of lowest age, and 16 where there is none.
-- It decides for all: an age is below that of the desk found exactly if it is below that of each desk picked.
use mathlib.Core.Path.{◌≡◌, refl, sym, ap, ap₂, ◌∙◌}
use mathlib.Core.Bool.{Bool, true, false, cond, ◌&&◌, ◌||◌, and-true}
use Prim.Native.Nat.{ℕ, zero, suc, ◌<◌, ◌≤◌}
use native.Mathlib.Nat.{le_refl}
use native.Mathlib.Omega.{arith}
use borrow.Author.Tests.{eqb-true, eq-eqb, ltb-true, ltb-false}
use lib.Dec.{eqb, ltb}
use Rattle.items.proofs.Tests.{by_test, by_cond, by_equal, clash, and_same, or_same, and_left, and_right, or_right, otherwise}
use Rattle.desks.specs.Desks.{eldest}

module _ (p : ℕ → Bool) (age : ℕ → ℕ) where
  -- desk n is taken in place of desk e, the one found below it
  abbrev taken : ℕ → ℕ → Bool
  taken n e = p n && (eqb e 16 || ltb (age n) (age e))

  -- the desk found is one that the test picks
  pub eldest_picked : (n : ℕ) → eqb (eldest p age n) 16 ≡ false → p (eldest p age n) ≡ true
  unfolding eldest
  eldest_picked zero = λ f. clash refl f
  eldest_picked (suc n) =
      by_cond (λ (e : ℕ). eqb e 16 ≡ false → p e ≡ true) (taken n (eldest p age n))
      (λ t f. and_left (p n) _ t) (λ t. eldest_picked n)

  pub eldest_below : (n : ℕ) → eqb (eldest p age n) 16 ≡ false → eldest p age n < n
  unfolding eldest
  eldest_below zero = λ f. clash refl f
  eldest_below (suc n) =
      by_cond (λ (e : ℕ). eqb e 16 ≡ false → e < suc n) (taken n (eldest p age n))
      (λ t f. le_refl (suc n)) (λ t f. let h = eldest_below n f in omega arith)

  pub eldest_le : (n : ℕ) → n ≤ 16 → eldest p age n ≤ 16
  eldest_le n h =
      by_test (eqb (eldest p age n) 16) (λ t. rw (eqb-true (eldest p age n) 16 t) (le_refl 16))
      (λ f. let l = eldest_below n f in omega arith)

  -- where none is found the test picks none
  pub eldest_none : (n : ℕ) → n ≤ 16 → eldest p age n ≡ 16 → (e : ℕ) → e < n → p e ≡ false
  unfolding eldest
  eldest_none zero h q e l = absurd (omega arith)
  eldest_none (suc n) h q e l =
      let m : ℕ = eldest p age n in
      let o : (taken n m ≡ false) × (m ≡ 16) = otherwise (taken n m) n m 16 (omega arith) q in
      by_equal e n
      (λ i. rw i (sym (and-true (p n)) ∙ (rw (eq-eqb m 16 o.1) at o.0)))
      (λ i. eldest_none n (omega arith) o.1 e (omega arith))

  -- where the test picks none, none is found
  pub eldest_out : (n : ℕ) → ((e : ℕ) → e < n → p e ≡ false) → eldest p age n ≡ 16
  unfolding eldest
  eldest_out zero out = refl
  eldest_out (suc n) out = rw (out n (le_refl (suc n))) (eldest_out n (λ e h. out e (omega arith)))

  -- none that the test picks is older
  pub eldest_least : (n : ℕ) → n ≤ 16 → (e : ℕ) → e < n → p e ≡ true → age (eldest p age n) ≤ age e
  unfolding eldest
  eldest_least zero h e l t = absurd (omega arith)
  eldest_least (suc n) h e l t =
      by_cond (λ (x : ℕ). age x ≤ age e) (taken n m)
      (λ new.
      by_equal e n (λ q. rw q (le_refl (age n)))
      (λ q.
      by_test (eqb m 16)
      (λ s. clash t (eldest_none n (omega arith) (eqb-true m 16 s) e (omega arith)))
      (λ s.
      let younger = ltb-true (age n) (age m) (rw s at (and_right (p n) (eqb m 16 || ltb (age n) (age m)) new)) in
      let least = eldest_least n (omega arith) e (omega arith) t in
      omega arith)))
      (λ old.
      by_equal e n
      (λ q.
      rw q
      (ltb-false (age n) (age m)
      (or_right (eqb m 16) (ltb (age n) (age m)) (rw (rw q at t) at old))))
      (λ q. eldest_least n (omega arith) e (omega arith) t))
    where
      m : ℕ
      m = eldest p age n

  -- an age is below that of the desk found exactly if it is below that of each desk picked
  module _ (n : ℕ) (h : n ≤ 16) (a : ℕ) where
    pub below_each : a < age (eldest p age n) → (e : ℕ) → e < n → p e ≡ true → a < age e
    below_each b e l t = let least = eldest_least n h e l t in omega arith

    pub each_below : eqb (eldest p age n) 16 ≡ false → ((e : ℕ) → e < n → p e ≡ true → a < age e) → a < age (eldest p age n)
    each_below f each = each (eldest p age n) (eldest_below n f) (eldest_picked n f)

-- the same test and, of those that it picks, the same ages: the same desk
module _ (p p' : ℕ → Bool) (age age' : ℕ → ℕ) (tests : (k : ℕ) → p k ≡ p' k) (ages : (k : ℕ) → p k ≡ true → age k ≡ age' k) where
  taken_same : (n e : ℕ) → (eqb e 16 ≡ false → p e ≡ true) → taken p age n e ≡ taken p' age' n e
  taken_same n e picked =
      and_same (p n) (λ h. or_same (eqb e 16) (λ f. ap₂ ltb (ages n h) (ages e (picked f))))
      ∙ ap (λ (t : Bool). t && (eqb e 16 || ltb (age' n) (age' e))) (tests n)

  pub eldest_same : (n : ℕ) → eldest p age n ≡ eldest p' age' n
  unfolding eldest
  eldest_same zero = refl
  eldest_same (suc n) =
      ap (λ (t : Bool). cond t n (eldest p age n)) (taken_same n (eldest p age n) (eldest_picked p age n))
      ∙ ap (λ (e : ℕ). cond (taken p' age' n e) n e) (eldest_same n)
