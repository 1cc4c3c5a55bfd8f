-- Bytes and the numbers that they give, low byte first.
use Rattle.std.specs.Prelude.{ℕ, ◌+◌, ◌*◌, ◌/◌, ◌%◌, ◌<◌, ◌≡◌, List, [], ◌∷◌, get_or, length}

-- n bytes
pub record Bytes (n : ℕ) (s : List ℕ) : Type 0 where
  pub long : length s ≡ n
  pub small : (k : ℕ) → get_or s k 0 < 256

-- byte k of a record
abbrev pub byte : List ℕ → ℕ → ℕ
byte s k = get_or s k 0

-- the number that four bytes give
abbrev pub word : ℕ → ℕ → ℕ → ℕ → ℕ
word a b c d = a + 256 * b + 65536 * c + 16777216 * d

-- the number in the four bytes from k on
abbrev pub word_at : List ℕ → ℕ → ℕ
word_at s k = word (byte s k) (byte s (k + 1)) (byte s (k + 2)) (byte s (k + 3))

-- the four bytes of a number
abbrev pub four_bytes : ℕ → List ℕ
four_bytes n = n % 256 ∷ n / 256 % 256 ∷ n / 65536 % 256 ∷ n / 16777216 % 256 ∷ []
