-- Pieces of 8 bytes: one of a slice, all of them in one, and apart again.
use Prim.Native.Nat.{ℕ, zero, suc, ◌+◌, ◌*◌, ◌/◌, ◌≤◌, ◌<◌}
use mathlib.Core.Path.{◌≡◌, refl, ap, sym, ◌∙◌}
use mathlib.Core.List.{List, [], ◌∷◌, ◌++◌, append_assoc, append-nil}
use native.Mathlib.Omega.{arith}
use lib.ListN.{length, take, drop, get_or, length-append, length-take, length-drop}
use lib.Seq.{take_at, drop-append-add, get_or-drop}
use Rattle.words.specs.Bytes.{Bytes}
use Rattle.pieces.specs.Pieces.{eights_of, eights_in, in_one}

-- piece k of a slice
abbrev pub eight_at : List ℕ → ℕ → List ℕ
eight_at s k = take 8 (drop (8 * k) s)

pub eights_of-length : (s : List ℕ) (k : ℕ) → length (eights_of s k) ≡ k
unfolding eights_of
eights_of-length s zero = refl
eights_of-length s (suc k) = rw length-append (omega (arith, eights_of-length s k))

abbrev Small : List ℕ → Type 0
Small s = (i : ℕ) → get_or s i 0 < 256

take_small : (n : ℕ) (s : List ℕ) → Small s → Small (take n s)
take_small zero s h i = omega arith
take_small (suc n) [] h i = omega arith
take_small (suc n) (x ∷ s) h zero = h zero
take_small (suc n) (x ∷ s) h (suc i) = take_small n s (λ j. h (suc j)) i

-- a part of a slice of bytes is bytes
pub part_bytes : (s : List ℕ) (at n : ℕ) → Small s → at + n ≤ length s → Bytes n (take n (drop at s))
part_bytes s at n small h =
    record {
      long = simp (length-take, length-drop) (omega arith);
      small = take_small n (drop at s) (λ i. rw get_or-drop (small (at + i)));
    }

-- ---- in one, and apart again

-- each is 8 long
abbrev pub EightLong : List (List ℕ) → Type 0
EightLong [] = Unit {0}
EightLong (q ∷ qs) = (length q ≡ 8) × EightLong qs

-- the first one, and those after it
eights_of_cons : (q s : List ℕ) → length q ≡ 8 → (n : ℕ) → eights_of (q ++ s) (suc n) ≡ q ∷ eights_of s n
unfolding eights_of
eights_of_cons q s e zero = ap (λ (l : List ℕ). l ∷ []) (take_at q s 8 e)
eights_of_cons q s e (suc n) =
    let k : 8 * suc n ≡ length q + 8 * n = omega arith in
    rw (eights_of_cons q s e n, k, drop-append-add q s (8 * n))

-- the first of them are those in one, and then those of what follows
pub eights_of_more : (qs : List (List ℕ)) → EightLong qs → (s : List ℕ) (n m : ℕ) → m ≡ length qs + n → eights_of (in_one qs ++ s) m ≡ qs ++ eights_of s n
eights_of_more [] h s n m e = ap (eights_of s) (omega arith)
eights_of_more (q ∷ qs) h s n m e =
    let more : m ≡ suc (length qs + n) = omega arith in
    rw (more, append_assoc q (in_one qs) s)
    (eights_of_cons q (in_one qs ++ s) h.0 (length qs + n) ∙ ap (λ (l : List (List ℕ)). q ∷ l) (eights_of_more qs h.1 s n (length qs + n) refl))

pub in_one-length : (qs : List (List ℕ)) → EightLong qs → length (in_one qs) ≡ 8 * length qs
in_one-length [] h = refl
in_one-length (q ∷ qs) h = rw length-append (omega (arith, h.0, in_one-length qs h.1))

pub apart : (qs : List (List ℕ)) → EightLong qs → eights_in (in_one qs) ≡ qs
unfolding eights_of
apart qs h =
    ap (λ (l : List ℕ). eights_of l (length (in_one qs) / 8)) (sym (append-nil (in_one qs)))
    ∙ eights_of_more qs h [] 0 (length (in_one qs) / 8) (omega (arith, in_one-length qs h)) ∙ append-nil qs
