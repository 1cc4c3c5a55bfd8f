-- A loop that looks for the eldest desk, one desk after another: what each turn gives.
use mathlib.Core.Path.{◌≡◌, refl}
use mathlib.Core.Bool.{Bool, true, false}
use Prim.Native.Nat.{ℕ, ◌+◌, ◌<◌}
use native.Mathlib.Numerals.{add-one}
use native.Mathlib.Omega.{arith}
use borrow.Author.Tests.{lt-ltb, eqb-true}
use lib.Dec.{eqb, ltb}
use Rattle.std.specs.Prelude.{Option, Some, None}
use Rattle.items.specs.First.{found}
use Rattle.items.proofs.First.{found_some}
use Rattle.items.proofs.Tests.{by_test, by_cond}
use Rattle.desks.specs.Desks.{eldest, older}
use Rattle.desks.proofs.Eldest.{eldest_below}

module _ (p : ℕ → Bool) (age : ℕ → ℕ) where
  -- of the desks below n that pass, the eldest
  abbrev pub found_below : ℕ → Option ℕ
  found_below n = found 16 (eldest p age n)

  pub none_below : None ≡ found_below 0
  unfolding eldest
  none_below = refl

  module _ (n : ℕ) where
    -- desk n does not pass
    pub found_passed : p n ≡ false → found_below n ≡ found_below (n + 1)
    unfolding eldest
    found_passed e = rw (add-one n, eldest, e)

    -- it passes, and is found if there was none or it is older
    pub found_older : n < 16 → p n ≡ true → Some (older age (found_below n) n) ≡ found_below (n + 1)
    unfolding eldest
    found_older low e =
        by_test (eqb (eldest p age n) 16)
        (λ none. let is = eqb-true (eldest p age n) 16 none in rw (add-one n, eldest, e, is) (found_some low))
        (λ some.
        let m = eldest_below p age n some in
        rw (add-one n, eldest, e, some, lt-ltb (eldest p age n) 16 (omega arith))
        (by_cond (λ (x : ℕ). Some x ≡ found 16 x) (ltb (age n) (age (eldest p age n))) (λ t. found_some low) (λ t. found_some (omega arith))))
