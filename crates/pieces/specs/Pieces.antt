-- Pieces of a buffer: records of 8 bytes, values of 4.
use Rattle.std.specs.Prelude.{ℕ, zero, suc, ◌+◌, ◌*◌, ◌/◌, List, [], ◌∷◌, ◌++◌, length, get_or, take, drop}
use Rattle.std.proofs.Math.Seq.{paste}
use Rattle.words.specs.Bytes.{four_bytes}

-- the first n pieces of 8 bytes, as requests are
unfoldable pub eights_of : List ℕ → ℕ → List (List ℕ)
eights_of s zero = []
eights_of s (suc n) = eights_of s n ++ (take 8 (drop (8 * n) s) ∷ [])

-- all of them
abbrev pub eights_in : List ℕ → List (List ℕ)
eights_in s = eights_of s (length s / 8)

-- pieces in one
abbrev pub in_one : List (List ℕ) → List ℕ
in_one [] = []
in_one (q ∷ qs) = q ++ in_one qs

-- the values, 4 bytes each
unfoldable pub four_each : List ℕ → List ℕ
four_each [] = []
four_each (v ∷ vs) = four_bytes v ++ four_each vs

-- the first n values in the buffer d, 4 bytes each, from index at on and step bytes apart
unfoldable pub put_each : ℕ → ℕ → List ℕ → List ℕ → ℕ → List ℕ
put_each at step d vs zero = d
put_each at step d vs (suc n) = paste (put_each at step d vs n) (step * n + at) (four_bytes (get_or vs n 0)) 4
