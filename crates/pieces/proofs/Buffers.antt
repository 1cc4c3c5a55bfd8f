-- Buffers that are written from the front, piece by piece; and the 4 bytes each of values.
use mathlib.Core.Path.{◌≡◌, refl, ap, sym, ◌∙◌}
use mathlib.Core.List.{List, [], ◌∷◌, ◌++◌}
use Prim.Native.Nat.{ℕ, zero, suc, ◌+◌, ◌*◌, ◌≤◌, ◌<◌}
use native.Mathlib.Nat.{mul-suc}
use native.Mathlib.Omega.{arith}
use Rattle.std.proofs.Common.{add-zero}
use native.Mathlib.Numerals.{add-one}
use lib.ListN.{length, take, drop, get_or}
use lib.Seq.{paste, take_all, take_at, take-length, length-take-le, take-suc, drop-append-add, drop-drop}
use Rattle.words.specs.Bytes.{four_bytes}
use Rattle.pieces.specs.Pieces.{four_each, put_each}

-- f is written at the front, and the rest is d's; then one more piece s
pub grows : (f d s : List ℕ) (n : ℕ) → length f ≡ n → paste (f ++ drop n d) n s (length s) ≡ (f ++ s) ++ drop (n + length s) d
grows f d s n e =
    ap (λ (l : List ℕ). l ++ take (length s) s ++ drop (n + length s) (f ++ drop n d)) (take_at f (drop n d) n e)
    ∙ ap (λ (l : List ℕ). f ++ l ++ drop (n + length s) (f ++ drop n d)) (take-length s)
    ∙ ap (λ (k : ℕ). f ++ s ++ drop (k + length s) (f ++ drop n d)) (sym e)
    ∙ ap (λ (l : List ℕ). f ++ s ++ l) (drop-append-add f (drop n d) (length s) ∙ drop-drop (length s) n d)

-- a loop that writes its i-th piece s, of w bytes, after the pieces before it, F i: d before the turn, d' after it
pub turn : (F : ℕ → List ℕ) (w i : ℕ) (d₀ d d' s : List ℕ) → length (F i) ≡ w * i → F (i + 1) ≡ F i ++ s → length s ≡ w
    → d ≡ F i ++ drop (w * i) d₀ → d' ≡ paste d (w * i) s (length s) → d' ≡ F (i + 1) ++ drop (w * (i + 1)) d₀
turn F w i d₀ d d' s sized next wide was went =
    let e : w * i + length s ≡ w * (i + 1) = rw (wide, add-one, mul-suc) in
    went ∙ ap (λ (l : List ℕ). paste l (w * i) s (length s)) was ∙ grows (F i) d₀ s (w * i) sized ∙ rw (next, e)

-- one more value
four_each_snoc : (vs : List ℕ) (v : ℕ) → four_each (vs ++ (v ∷ [])) ≡ four_each vs ++ four_bytes v
unfolding four_each
four_each_snoc [] v = refl
four_each_snoc (u ∷ vs) v = ap (λ (l : List ℕ). four_bytes u ++ l) (four_each_snoc vs v)

pub four_each_suc : (vs : List ℕ) (i : ℕ) → i < length vs → four_each (take (i + 1) vs) ≡ four_each (take i vs) ++ four_bytes (get_or vs i 0)
four_each_suc vs i h = rw (add-one, take-suc vs i 0, four_each_snoc)

pub four_each-length : (vs : List ℕ) → length (four_each vs) ≡ 4 * length vs
unfolding four_each
four_each-length [] = refl
four_each-length (v ∷ vs) = omega (arith, four_each-length vs)

pub four_each-take : (vs : List ℕ) (i : ℕ) → i ≤ length vs → length (four_each (take i vs)) ≡ 4 * i
four_each-take vs i h = four_each-length (take i vs) ∙ ap (λ (n : ℕ). 4 * n) (length-take-le i vs h)

-- values put 4 bytes apart stand at the front
put_front : (d vs : List ℕ) (n : ℕ) → n ≤ length vs → put_each 0 4 d vs n ≡ four_each (take n vs) ++ drop (4 * n) d
unfolding put_each four_each
put_front d vs zero h = refl
put_front d vs (suc n) h =
    let four = four_bytes (get_or vs n 0) in
    let went : put_each 0 4 d vs (suc n) ≡ paste (put_each 0 4 d vs n) (4 * n) four (length four) = rw add-zero in
    rw add-one at (turn (λ i. four_each (take i vs)) 4 n d (put_each 0 4 d vs n) (put_each 0 4 d vs (suc n)) four
    (four_each-take vs n (omega arith)) (four_each_suc vs n (omega arith)) refl (put_front d vs n (omega arith)) went)

pub put_front_all : (d vs : List ℕ) → length vs ≡ 64 → put_each 0 4 d vs 64 ≡ four_each vs ++ drop 256 d
put_front_all d vs e = put_front d vs 64 (omega arith) ∙ ap (λ (l : List ℕ). four_each l ++ drop 256 d) (take_all 64 vs (omega arith))
