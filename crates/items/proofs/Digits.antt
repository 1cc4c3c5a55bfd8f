-- The binary digits of a number, lowest first, and what the bit operations do to them.
use mathlib.Core.Path.{◌≡◌, refl, ap, ap₂, ◌∙◌, sym, fun_ext}
use mathlib.Core.Bool.{Bool, false, ◌&&◌, ◌||◌, not, true≢false, false≢true}
use Prim.Native.Nat.{ℕ, zero, suc, ◌+◌, ◌*◌, ◌/◌, ◌%◌, ◌^◌, ◌<◌, min, max}
use native.Mathlib.Nat.{zero-lt-suc, div-one, div-div-eq-div-mul, pow-succ', mod-lt, div-add-mod', zero-div, one-mul}
use native.Mathlib.Numerals.{add-one}
use native.Mathlib.Omega.{arith}
use lib.Arith.{digits_div, digits_mod, lt-one}
use lib.Bits.{bit_and, bit_or, bit_xor, differ, and_step, or_step, xor_step, shifted_half, shifted_even}
use lib.Count.{count_trailing_zeros, under}
use lib.Dec.{eqb, lit<, eqb-zero-suc, eqb-suc-zero, eqb-suc-suc}
use lib.Pow.{shr_lt, shl_exact}
use Rattle.items.specs.First.{first}
use Rattle.items.proofs.First.{first_here, first_later}

abbrev pub digit : ℕ → ℕ → ℕ
digit n i = n / 2 ^ i % 2

-- the digit as a test
abbrev pub is_set : ℕ → ℕ → Bool
is_set n i = eqb (digit n i) 1

pub digit_zero : (n : ℕ) → digit n 0 ≡ n % 2
digit_zero n = ap (λ (x : ℕ). x % 2) (div-one n)

pub digit_suc : (n i : ℕ) → digit n (suc i) ≡ digit (n / 2) i
digit_suc n i = ap (λ (x : ℕ). x % 2) (ap (λ (x : ℕ). n / x) (pow-succ' 2 i) ∙ sym (div-div-eq-div-mul n 2 (2 ^ i)))

pub low_lt : (n : ℕ) → n % 2 < 2
low_lt n = mod-lt n (zero-lt-suc 1)

-- a fact of two digits is a matter of four cases
by_digits : (P : ℕ → ℕ → Type 0) → P 0 0 → P 0 1 → P 1 0 → P 1 1 → (x y : ℕ) → x < 2 → y < 2 → P x y
by_digits P p q r s zero zero hx hy = p
by_digits P p q r s zero (suc zero) hx hy = q
by_digits P p q r s (suc zero) zero hx hy = r
by_digits P p q r s (suc zero) (suc zero) hx hy = s
by_digits P p q r s (suc (suc x)) y hx hy = absurd (omega arith)
by_digits P p q r s zero (suc (suc y)) hx hy = absurd (omega arith)
by_digits P p q r s (suc zero) (suc (suc y)) hx hy = absurd (omega arith)

-- ---- the bit operations go digit by digit

module _ (op f : ℕ → ℕ → ℕ)
    (step : (a b : ℕ) → op a b ≡ op (a / 2) (b / 2) * 2 + f (a % 2) (b % 2))
    (small : (x y : ℕ) → x < 2 → y < 2 → f x y < 2) where
  step_lt : (a b : ℕ) → f (a % 2) (b % 2) < 2
  step_lt a b = small (a % 2) (b % 2) (low_lt a) (low_lt b)

  digit_op : (a b i : ℕ) → digit (op a b) i ≡ f (digit a i) (digit b i)
  digit_op a b zero =
      digit_zero (op a b) ∙ ap (λ (x : ℕ). x % 2) (step a b) ∙ digits_mod (op (a / 2) (b / 2)) (step_lt a b)
      ∙ sym (ap₂ f (digit_zero a) (digit_zero b))
  digit_op a b (suc i) =
      digit_suc (op a b) i ∙ ap (λ (x : ℕ). digit (x / 2) i) (step a b)
      ∙ ap (λ (x : ℕ). digit x i) (digits_div (op (a / 2) (b / 2)) (step_lt a b))
      ∙ digit_op (a / 2) (b / 2) i ∙ sym (ap₂ f (digit_suc a i) (digit_suc b i))

digit_and : (a b i : ℕ) → digit (bit_and a b) i ≡ min (digit a i) (digit b i)
digit_and = digit_op bit_and min and_step (by_digits (λ x y. min x y < 2) (lit< tt) (lit< tt) (lit< tt) (lit< tt))

digit_or : (a b i : ℕ) → digit (bit_or a b) i ≡ max (digit a i) (digit b i)
digit_or = digit_op bit_or max or_step (by_digits (λ x y. max x y < 2) (lit< tt) (lit< tt) (lit< tt) (lit< tt))

digit_xor : (a b i : ℕ) → digit (bit_xor a b) i ≡ differ (digit a i) (digit b i)
digit_xor = digit_op bit_xor differ xor_step (by_digits (λ x y. differ x y < 2) (lit< tt) (lit< tt) (lit< tt) (lit< tt))

-- what is computed of two digits, as a test of two tests
module _ (f : ℕ → ℕ → ℕ) (g : Bool → Bool → Bool)
    (same : (x y : ℕ) → x < 2 → y < 2 → eqb (f x y) 1 ≡ g (eqb x 1) (eqb y 1)) where
  as_test : (a b i : ℕ) {d : ℕ} → d ≡ f (digit a i) (digit b i) → eqb d 1 ≡ g (is_set a i) (is_set b i)
  as_test a b i e = ap (λ (x : ℕ). eqb x 1) e ∙ same (digit a i) (digit b i) (low_lt (a / 2 ^ i)) (low_lt (b / 2 ^ i))

pub set_and : (a b i : ℕ) → is_set (bit_and a b) i ≡ (is_set a i && is_set b i)
set_and a b i =
    as_test min ◌&&◌ (by_digits (λ x y. eqb (min x y) 1 ≡ (eqb x 1 && eqb y 1)) refl refl refl refl) a b i (digit_and a b i)

pub set_or : (a b i : ℕ) → is_set (bit_or a b) i ≡ (is_set a i || is_set b i)
set_or a b i =
    as_test max ◌||◌ (by_digits (λ x y. eqb (max x y) 1 ≡ (eqb x 1 || eqb y 1)) refl refl refl refl) a b i (digit_or a b i)

-- a less what it has in common with b
pub set_less : (a b i : ℕ) → is_set (bit_xor a (bit_and a b)) i ≡ (is_set a i && not (is_set b i))
set_less a b i =
    as_test (λ x y. differ x (min x y)) (λ p q. p && not q)
    (by_digits (λ x y. eqb (differ x (min x y)) 1 ≡ (eqb x 1 && not (eqb y 1))) refl refl refl refl) a b i
    (digit_xor a (bit_and a b) i ∙ ap (differ (digit a i)) (digit_and a b i))

-- ---- 0 has no digit set, and a power of 2 has one

pub set_zero : (i : ℕ) → is_set 0 i ≡ false
set_zero i = ap (λ (x : ℕ). eqb (x % 2) 1) (zero-div (2 ^ i))

half_pow : (i : ℕ) → 2 ^ suc i / 2 ≡ 2 ^ i
half_pow i = ap (λ (x : ℕ). x / 2) (sym (one-mul (2 ^ suc i))) ∙ shifted_half 1 i ∙ one-mul (2 ^ i)

even_pow : (i : ℕ) → 2 ^ suc i % 2 ≡ 0
even_pow i = ap (λ (x : ℕ). x % 2) (sym (one-mul (2 ^ suc i))) ∙ shifted_even 1 i

-- `1 << i`, as the machine has it
pub one_shl : (i : ℕ) → i < 64 → (1 * 2 ^ i) % 2 ^ 64 ≡ 2 ^ i
one_shl i h = shl_exact 1 i 64 (lit< tt) (omega arith) ∙ one-mul (2 ^ i)

pub set_pow : (i j : ℕ) → is_set (2 ^ i) j ≡ eqb i j
set_pow zero zero = refl
set_pow zero (suc j) = ap (λ (x : ℕ). eqb x 1) (digit_suc 1 j) ∙ set_zero j ∙ sym (eqb-zero-suc j)
set_pow (suc i) zero = ap (λ (x : ℕ). eqb x 1) (digit_zero (2 ^ suc i) ∙ even_pow i) ∙ sym (eqb-suc-zero i)
set_pow (suc i) (suc j) =
    ap (λ (x : ℕ). eqb x 1) (digit_suc (2 ^ suc i) j ∙ ap (λ (x : ℕ). digit x j) (half_pow i)) ∙ set_pow i j ∙ sym (eqb-suc-suc i j)

-- ---- two numbers of k digits are equal when their digits are

tests_tell : (x y : ℕ) → x < 2 → y < 2 → eqb x 1 ≡ eqb y 1 → x ≡ y
tests_tell =
    by_digits (λ x y. eqb x 1 ≡ eqb y 1 → x ≡ y) (λ e. refl) (λ e. absurd (false≢true e)) (λ e. absurd (true≢false e)) (λ e. refl)

pub half_lt : {n : ℕ} (k : ℕ) → n < 2 ^ suc k → n / 2 < 2 ^ k
half_lt k h = shr_lt k 1 (rw (add-one k) h)

pub same_digits : (k a b : ℕ) → a < 2 ^ k → b < 2 ^ k → ((i : ℕ) → i < k → is_set a i ≡ is_set b i) → a ≡ b
same_digits zero a b ha hb same = lt-one ha ∙ sym (lt-one hb)
same_digits (suc k) a b ha hb same =
    let low : a % 2 ≡ b % 2 = tests_tell (a % 2) (b % 2) (low_lt a) (low_lt b)
    (rw (← digit_zero a, ← digit_zero b) (same zero (zero-lt-suc k))) in
    let high : a / 2 ≡ b / 2 = same_digits k (a / 2) (b / 2) (half_lt k ha) (half_lt k hb)
    (λ i h. rw (← digit_suc a i, ← digit_suc b i) (same (suc i) (omega arith))) in
    sym (div-add-mod' a 2) ∙ ap₂ (λ (x y : ℕ). x * 2 + y) high low ∙ div-add-mod' b 2

-- ---- the count of trailing zeros finds the first digit that is set

pub trailing_first : (k n : ℕ) → count_trailing_zeros k n ≡ first k (is_set n)
unfolding count_trailing_zeros first
trailing_first zero n = refl
trailing_first (suc k) n = go (n % 2) refl (low_lt n) (trailing_first k (n / 2))
  where
    test : (d : ℕ) → n % 2 ≡ d → is_set n 0 ≡ eqb d 1
    test d e = ap (λ (x : ℕ). eqb x 1) (digit_zero n ∙ e)

    go : (d : ℕ) → n % 2 ≡ d → d < 2 → count_trailing_zeros k (n / 2) ≡ first k (is_set (n / 2)) → under d (count_trailing_zeros k (n / 2)) ≡ first (suc k) (is_set n)
    go zero e h ih =
        ap suc (ih ∙ ap (first k) (fun_ext (λ i. ap (λ (x : ℕ). eqb x 1) (sym (digit_suc n i))))) ∙ sym (first_later k (is_set n) (test 0 e))
    go (suc zero) e h ih = sym (first_here k (is_set n) (test 1 e))
    go (suc (suc d)) e h ih = absurd (omega arith)
