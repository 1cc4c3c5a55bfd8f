-- Which items were written by transactions numbered above s, and by the transaction numbered n.
use mathlib.Core.Path.{◌≡◌, refl, sym, ◌∙◌}
use mathlib.Core.Bool.{Bool, false, cond, ◌&&◌, ◌||◌}
use mathlib.Core.List.{List, [], ◌∷◌}
use Prim.Native.Nat.{ℕ, ◌+◌, ◌<◌, ◌≤◌}
use native.Mathlib.Omega.{arith}
use borrow.Author.Tests.{eq-eqb, ne_eqb, lt-ltb, ltb-true}
use lib.Dec.{eqb, ltb}
use lib.ListN.{length}
use Rattle.runs.specs.Replay.{Transaction}
use Rattle.items.proofs.Tests.{by_test, or_left, or_right, or_both}
use Rattle.runs.proofs.Log.{wrote}

-- item i was written above number s
abbrev pub since : ℕ → List Transaction → ℕ → Bool
since s [] i = false
since s (t ∷ ts) i = (ltb s (length ts + 1) && wrote t.ops i) || since s ts i

-- item i was written by number n
abbrev pub wrote_by : ℕ → List Transaction → ℕ → Bool
wrote_by n [] i = false
wrote_by n (t ∷ ts) i = cond (eqb n (length ts + 1)) (wrote t.ops i) (wrote_by n ts i)

pub wrote_by_new : (t : Transaction) (ts : List Transaction) (n i : ℕ) → n ≡ length ts + 1 → wrote_by n (t ∷ ts) i ≡ wrote t.ops i
wrote_by_new t ts n i e = rw (eq-eqb n (length ts + 1) e) refl

pub wrote_by_old : (t : Transaction) (ts : List Transaction) (n i : ℕ) → n ≤ length ts → wrote_by n (t ∷ ts) i ≡ wrote_by n ts i
wrote_by_old t ts n i h = rw (ne_eqb n (length ts + 1) (λ e. omega arith)) refl

module _ (s : ℕ) (t : Transaction) (ts : List Transaction) (i : ℕ) where
  pub since_old : since s (t ∷ ts) i ≡ false → since s ts i ≡ false
  since_old = or_right (ltb s (length ts + 1) && wrote t.ops i) (since s ts i)

  pub since_new : s ≤ length ts → since s (t ∷ ts) i ≡ false → wrote t.ops i ≡ false
  since_new h e =
      rw (lt-ltb s (length ts + 1) (omega arith)) at (or_left (ltb s (length ts + 1) && wrote t.ops i) (since s ts i) e)

-- what no number above s has written
pub since_none : (s : ℕ) (ts : List Transaction) (i : ℕ) → ((n : ℕ) → s < n → n ≤ length ts → wrote_by n ts i ≡ false) → since s ts i ≡ false
since_none s [] i out = refl
since_none s (t ∷ ts) i out =
    or_both (ltb s (length ts + 1) && wrote t.ops i) (since s ts i)
    (by_test (ltb s (length ts + 1))
    (λ e. rw e (sym (wrote_by_new t ts (length ts + 1) i refl) ∙ out (length ts + 1) (ltb-true s (length ts + 1) e) (omega arith)))
    (λ e. rw e))
    (since_none s ts i (λ n l h. sym (wrote_by_old t ts n i h) ∙ out n l (omega arith)))
