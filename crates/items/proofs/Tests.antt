-- Cases on a test with its equation at hand, on a place in a list, and what follows from the value of `&&`, `||` and `cond`. All proofs share these.
use mathlib.Core.Path.{◌≡◌, refl, sym, ◌∙◌}
use mathlib.Core.Logic.{◌≢◌}
use mathlib.Core.Bool.{Bool, true, false, cond, ◌&&◌, ◌||◌, true≢false}
use Prim.Native.Nat.{ℕ, zero, suc}
use borrow.Author.Tests.{eqb-true, eqb-false}
use lib.Dec.{eqb}
use lib.ListN.{get_or, replicate}

-- ---- by cases

pub by_test {ℓ} : {P : Type ℓ} (t : Bool) → (t ≡ true → P) → (t ≡ false → P) → P
by_test true p q = p refl
by_test false p q = q refl

-- a fact of both branches, each under its test
pub by_cond {ℓ κ} : {A : Type ℓ} (P : A → Type κ) (t : Bool) {x y : A} → (t ≡ true → P x) → (t ≡ false → P y) → P (cond t x y)
by_cond P true p q = p refl
by_cond P false p q = q refl

-- two numbers are the same or not
pub by_equal {ℓ} : {P : Type ℓ} (m n : ℕ) → (m ≡ n → P) → (m ≢ n → P) → P
by_equal m n p q = by_test (eqb m n) (λ t. p (eqb-true m n t)) (λ f. q (eqb-false m n f))

-- of a place in a list that holds x all along: x is there, or past the end y
pub by_place : {A : Type 0} (P : A → Type 0) {x y : A} → P x → P y → (n i : ℕ) → P (get_or (replicate n x) i y)
by_place P p q zero i = q
by_place P p q (suc n) zero = p
by_place P p q (suc n) (suc i) = by_place P p q n i

pub clash {ℓ} : {P : Type ℓ} {t : Bool} → t ≡ true → t ≡ false → P
clash p q = absurd (true≢false (sym p ∙ q))

-- ---- the same test, and branches that are the same where they are taken

pub cond_same : {A : Type 0} (t : Bool) {x x' y y' : A} → (t ≡ true → x ≡ x') → (t ≡ false → y ≡ y') → cond t x y ≡ cond t x' y'
cond_same true f g = f refl
cond_same false f g = g refl

pub and_same : (t : Bool) {u v : Bool} → (t ≡ true → u ≡ v) → (t && u) ≡ (t && v)
and_same true f = f refl
and_same false f = refl

pub or_same : (t : Bool) {u v : Bool} → (t ≡ false → u ≡ v) → (t || u) ≡ (t || v)
or_same true f = refl
or_same false f = f refl

-- ---- parts

pub and_left : (t u : Bool) → (t && u) ≡ true → t ≡ true
and_left true u e = refl
and_left false u e = e

pub and_right : (t u : Bool) → (t && u) ≡ true → u ≡ true
and_right true u e = e
and_right false u e = clash e refl

pub and_not_right : (t u : Bool) → (t && u) ≡ false → u ≡ true → t ≡ false
and_not_right true u e h = clash h e
and_not_right false u e h = refl

pub and_in : (t u : Bool) → t ≡ true → u ≡ true → (t && u) ≡ true
and_in true u h e = e
and_in false u h e = h

pub or_left : (t u : Bool) → (t || u) ≡ false → t ≡ false
or_left true u e = e
or_left false u e = refl

pub or_right : (t u : Bool) → (t || u) ≡ false → u ≡ false
or_right true u e = clash refl e
or_right false u e = e

pub or_both : (t u : Bool) → t ≡ false → u ≡ false → (t || u) ≡ false
or_both t u p q = rw (p, q)

pub or_in_right : (t u : Bool) → u ≡ true → (t || u) ≡ true
or_in_right true u e = refl
or_in_right false u e = e

-- ---- weaker tests

pub and_weaker : {t u : Bool} (t' u' : Bool) → (t' ≡ true → t ≡ true) → (u' ≡ true → u ≡ true) → (t && u) ≡ false → (t' && u') ≡ false
and_weaker false u' f g e = refl
and_weaker true false f g e = refl
and_weaker {t} {u} true true f g e = clash (and_in t u (f refl) (g refl)) e

pub or_weaker : (t : Bool) {u u' : Bool} → (u' ≡ true → u ≡ true) → (t || u') ≡ true → (t || u) ≡ true
or_weaker true f e = refl
or_weaker false f e = f e

-- a choice that came out otherwise than its first branch
pub otherwise : (t : Bool) (n m z : ℕ) → n ≢ z → cond t n m ≡ z → (t ≡ false) × (m ≡ z)
otherwise true n m z h e = absurd (h e)
otherwise false n m z h e = (refl, e)
