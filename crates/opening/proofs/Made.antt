-- An array that `array::from_fn` makes with a closure that no call changes: at each place what the call there gives.
use Prim.Native.Nat.{ℕ, zero, suc, ◌+◌, ◌<◌}
use denote.Param.Members.{Mut, Called}
use lib.ListN.{get_or}
use mathlib.Core.List.{List}
use Rattle.std.proofs.Common.{◌≡◌, sym, subst, ◌∙◌, arith}
use Rattle.std.specs.Array.{IsFromFnResult, IsFromFnResultFrom}

each : {F : Type 0} (g : Mut F (ℕ × Unit {0}) ℕ) (f : F) (h : ℕ → ℕ)
    → ((i y : ℕ) (q : F) → Called g f (i, tt) y q → (q ≡ f) × (y ≡ h i))
    → (ys : List ℕ) (i n : ℕ) → IsFromFnResultFrom g f ys i n → (k j : ℕ) → k < n → j ≡ i + k → h j ≡ get_or ys j 0
each g f h same ys i zero e k j l p = absurd (omega arith)
each g f h same ys i (suc n) e zero j l p =
    let at : j ≡ i = omega arith in
    rw at (sym (e.2.1 0 ∙ (same i e.1 e.0 e.3).1))
each {F} g f h same ys i (suc n) e (suc k) j l p =
    let rest = subst (λ (q : F). IsFromFnResultFrom g q ys (i + 1) n) (same i e.1 e.0 e.3).0 e.4 in
    each g f h same ys (i + 1) n rest k j (omega arith) (omega arith)

pub made : {F : Type 0} {g : Mut F (ℕ × Unit {0}) ℕ} {f : F} (h : ℕ → ℕ) {ys : List ℕ} {n : ℕ} → IsFromFnResult g f ys n
    → ((i y : ℕ) (q : F) → Called g f (i, tt) y q → (q ≡ f) × (y ≡ h i)) → (i : ℕ) → i < n → h i ≡ get_or ys i 0
made {F} {g} {f} h {ys} {n} e same i l = each g f h same ys 0 n e.each i i l (omega arith)
