-- Records of 8 bytes at the front of a buffer: the bytes after them have no part in them.
use Prim.Native.Nat.{ℕ, zero, suc, ◌+◌, ◌*◌, ◌≤◌}
use mathlib.Core.Path.{◌≡◌, refl, ap, sym, ◌∙◌}
use mathlib.Core.List.{List, [], ◌∷◌, ◌++◌, append-nil}
use native.Mathlib.Omega.{arith}
use lib.ListN.{length, take, drop, length-append, length-take, length-drop}
use lib.Seq.{drop-append-le, take-append-le, take-add, length-take-le, get_or-take, get_or-drop}
use Rattle.words.specs.Bytes.{byte}
use Rattle.pieces.specs.Pieces.{eights_of, in_one}
use Rattle.pieces.proofs.Eights.{eight_at, eights_of-length, EightLong, eights_of_more}
use Rattle.records.specs.Records.{over}
use Rattle.records.proofs.Appended.{over_is}
use Rattle.records.proofs.Sizes.{in_one-append}

-- the pieces of the front alone
pub front : (s r : List ℕ) (n : ℕ) → 8 * n ≤ length s → eights_of (s ++ r) n ≡ eights_of s n
unfolding eights_of
front s r zero h = refl
front s r (suc n) h =
    let rest : 8 ≤ length (drop (8 * n) s) = rw length-drop (omega arith) in
    let piece : eight_at (s ++ r) n ≡ eight_at s n = ap (take 8) (drop-append-le (8 * n) s r (omega arith)) ∙ take-append-le 8 (drop (8 * n) s) r rest in
    λ i. front s r n (omega arith) i ++ (piece i ∷ [])

-- a buffer is its front and the rest
split : (n : ℕ) (s : List ℕ) → take n s ++ drop n s ≡ s
split zero s = refl
split (suc n) [] = refl
split (suc n) (x ∷ s) = ap (λ (l : List ℕ). x ∷ l) (split n s)

-- of two buffers with the same front of u bytes
pub same_front : (s r : List ℕ) (u n : ℕ) → take u s ≡ take u r → 8 * n ≤ u → u ≤ length s → u ≤ length r → eights_of s n ≡ eights_of r n
same_front s r u n e h ls lr =
    let a : 8 * n ≤ length (take u s) = rw (length-take-le u s ls) h in
    let b : 8 * n ≤ length (take u r) = rw (length-take-le u r lr) h in
    ap (λ (l : List ℕ). eights_of l n) (sym (split u s)) ∙ front (take u s) (drop u s) n a
    ∙ ap (λ (l : List ℕ). eights_of l n) e
    ∙ sym (front (take u r) (drop u r) n b) ∙ ap (λ (l : List ℕ). eights_of l n) (split u r)

-- the first byte of piece n
pub first_byte : (s : List ℕ) (n : ℕ) → byte (eight_at s n) 0 ≡ byte s (8 * n)
first_byte s n = get_or-take 8 (drop (8 * n) s) 0 0 (omega arith) ∙ get_or-drop (8 * n) s 0 0 ∙ ap (byte s) (omega arith)

-- ---- pieces in one

pub long_more : (ps qs : List (List ℕ)) → EightLong ps → EightLong qs → EightLong (ps ++ qs)
long_more [] qs p q = q
long_more (x ∷ ps) qs p q = (p.0, long_more ps qs p.1 q)

eights_long : (s : List ℕ) (n : ℕ) → 8 * n ≤ length s → EightLong (eights_of s n)
unfolding eights_of
eights_long s zero h = tt
eights_long s (suc n) h = long_more (eights_of s n) (eight_at s n ∷ []) (eights_long s n (omega arith)) (simp (length-take, length-drop) (omega arith), tt)

eights_in_one : (s : List ℕ) (n : ℕ) → in_one (eights_of s n) ≡ take (8 * n) s
unfolding eights_of
eights_in_one s zero = refl
eights_in_one s (suc n) =
    let more : 8 * n + 8 ≡ 8 * suc n = omega arith in
    in_one-append (eights_of s n) (eight_at s n ∷ []) ∙ rw (eights_in_one s n, append-nil) (sym (take-add (8 * n) 8 s)) ∙ ap (λ (k : ℕ). take k s) more

-- records put into a buffer after its first m pieces: the pieces, and then they
pub put_after : (j : List ℕ) (m : ℕ) (es : List (List ℕ)) → EightLong es → 8 * m ≤ length j → (n : ℕ) → n ≡ m + length es
    → eights_of (over j (8 * m) (in_one es)) n ≡ eights_of j m ++ es
unfolding eights_of
put_after j m es long h n e =
    let all = eights_of j m ++ es in
    let rest = drop (8 * m + length (in_one es)) j in
    let bytes : over j (8 * m) (in_one es) ≡ in_one all ++ rest = over_is j (8 * m) (in_one es) ∙ ap (λ (l : List ℕ). l ++ in_one es ++ rest) (sym (eights_in_one j m)) ∙ ap (λ (l : List ℕ). l ++ rest) (sym (in_one-append (eights_of j m) es)) in
    let count : n ≡ length all + 0 = rw (length-append, eights_of-length) (omega arith) in
    ap (λ (l : List ℕ). eights_of l n) bytes ∙ eights_of_more all (long_more (eights_of j m) es (eights_long j m h) long) rest 0 n count ∙ append-nil all
