-- The four bytes of a number: each is a byte, and a number below 2 to the 32 is the one that they give.
use Prim.Native.Nat.{ℕ, zero, suc, ◌+◌, ◌*◌, ◌/◌, ◌%◌, ◌<◌}
use mathlib.Core.Path.{◌≡◌, ap, sym, ◌∙◌}
use native.Mathlib.Nat.{div-div-eq-div-mul, mod-eq_of_lt}
use native.Mathlib.Omega.{arith}
use lib.ListN.{get_or}
use Rattle.words.specs.Bytes.{word_at, four_bytes}

split : (n : ℕ) → n ≡ n % 256 + 256 * (n / 256)
split n = omega arith

last_byte : (n : ℕ) → n < 4294967296 → n / 256 / 256 / 256 < 256
last_byte n h = omega arith

whole : (n r a s b t c u : ℕ) → n ≡ r + 256 * a → a ≡ s + 256 * b → b ≡ t + 256 * c → u ≡ c → r + 256 * s + 65536 * t + 16777216 * u ≡ n
whole n r a s b t c u p q w x = omega arith

-- the number is read back
pub four_tell : (n : ℕ) → n < 4294967296 → word_at (four_bytes n) 0 ≡ n
four_tell n h =
    let two : n / 65536 ≡ n / 256 / 256 = sym (div-div-eq-div-mul n 256 256) in
    let three : n / 16777216 ≡ n / 256 / 256 / 256 = sym (div-div-eq-div-mul n 65536 256) ∙ ap (λ (m : ℕ). m / 256) two in
    rw (two, three)
    (whole n (n % 256) (n / 256) (n / 256 % 256) (n / 256 / 256) (n / 256 / 256 % 256) (n / 256 / 256 / 256) (n / 256 / 256 / 256 % 256)
    (split n) (split (n / 256)) (split (n / 256 / 256)) (mod-eq_of_lt (last_byte n h)))

-- each of the four, and what is read past them
pub four_small : (n k : ℕ) → get_or (four_bytes n) k 0 < 256
four_small n zero = omega arith
four_small n (suc zero) = omega arith
four_small n (suc (suc zero)) = omega arith
four_small n (suc (suc (suc zero))) = omega arith
four_small n (suc (suc (suc (suc k)))) = omega arith
