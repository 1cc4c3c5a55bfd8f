-- How many digits of a number are set is how many items are in its set.
use mathlib.Core.Path.{◌≡◌, refl, ap, sym, ◌∙◌}
use mathlib.Core.Bool.{cond}
use Prim.Native.Nat.{ℕ, zero, suc, ◌+◌, ◌/◌, ◌%◌, ◌^◌, ◌<◌}
use native.Mathlib.Omega.{arith}
use lib.Arith.{lt-one}
use lib.Count.{ones, ones_in, ones_step}
use lib.Dec.{eqb}
use Rattle.items.specs.Items.{has, count_below}
use Rattle.items.specs.declared.Items.{Items}
use Rattle.items.proofs.Digits.{digit_zero, digit_suc, low_lt, half_lt}

as_number : (x : ℕ) → x < 2 → cond (eqb x 1) 1 0 ≡ x
as_number zero h = refl
as_number (suc zero) h = refl
as_number (suc (suc x)) h = absurd (omega arith)

-- the lowest digit, and the others
count_step : (n k : ℕ) → count_below (record { 0 = n }) (suc k) ≡ n % 2 + count_below (record { 0 = n / 2 }) k
unfolding count_below has
count_step n zero = omega (arith, ap {B = ℕ} (λ (x : ℕ). cond (eqb x 1) 1 0) (digit_zero n) ∙ as_number (n % 2) (low_lt n))
count_step n (suc k) =
    omega (arith, count_step n k, ap {B = ℕ} (λ (x : ℕ). cond (eqb x 1) 1 0) (digit_suc n k))

ones_count : (k n : ℕ) → n < 2 ^ k → ones n ≡ count_below (record { 0 = n }) k
unfolding count_below ones ones_in
ones_count zero n h = rw (lt-one h)
ones_count (suc k) n h =
    ones_step n ∙ ap (λ (x : ℕ). n % 2 + x) (ones_count k (n / 2) (half_lt k h)) ∙ sym (count_step n k)

pub ones_items : (s : Items) → s.0 < 18446744073709551616 → ones s.0 ≡ count_below s 64
ones_items s h = ones_count 64 s.0 h
