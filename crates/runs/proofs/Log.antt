-- What a transaction's operations do to one item: a log fits the values where it fits the value of each item.
use mathlib.Core.Path.{◌≡◌, refl, sym, ◌∙◌}
use mathlib.Core.Bool.{Bool, false, cond, ◌||◌}
use mathlib.Core.List.{List, [], ◌∷◌}
use Prim.Native.Nat.{ℕ, ◌<◌}
use borrow.Author.Tests.{eq-eqb, ne_eqb}
use lib.Dec.{eqb}
use lib.ListN.{get_or, length, length-set}
use lib.Seq.{get_or-set_same, get_or-set_other}
use Rattle.runs.specs.Replay.{Op, got, put, replayed, Fits}
use Rattle.items.proofs.Tests.{by_equal}

-- the value of item i replayed the operations, where it was x before them
abbrev pub value_at : ℕ → ℕ → List Op → ℕ
value_at i x [] = x
value_at i x (got j v ∷ l) = value_at i x l
value_at i x (put j v ∷ l) = cond (eqb j i) v (value_at i x l)

-- each read of item i finds the value it was given
abbrev pub FitsAt : ℕ → ℕ → List Op → Type 0
FitsAt i x [] = Unit {0}
FitsAt i x (got j v ∷ l) = (j ≡ i → value_at i x l ≡ v) × FitsAt i x l
FitsAt i x (put j v ∷ l) = FitsAt i x l

-- item i is written
abbrev pub wrote : List Op → ℕ → Bool
wrote [] i = false
wrote (got j v ∷ l) i = wrote l i
wrote (put j v ∷ l) i = eqb j i || wrote l i

-- each item is below n
abbrev pub InRange : ℕ → List Op → Type 0
InRange n [] = Unit {0}
InRange n (got j v ∷ l) = (j < n) × InRange n l
InRange n (put j v ∷ l) = (j < n) × InRange n l

pub replayed-length : (vs : List ℕ) (l : List Op) → length (replayed vs l) ≡ length vs
replayed-length vs [] = refl
replayed-length vs (got j v ∷ l) = replayed-length vs l
replayed-length vs (put j v ∷ l) = length-set (replayed vs l) j v ∙ replayed-length vs l

pub replayed_at : (vs : List ℕ) (l : List Op) (i : ℕ) → i < length vs → get_or (replayed vs l) i 0 ≡ value_at i (get_or vs i 0) l
replayed_at vs [] i h = refl
replayed_at vs (got j v ∷ l) i h = replayed_at vs l i h
replayed_at vs (put j v ∷ l) i h =
    by_equal j i
    (λ e. rw (eq-eqb j i e, e) (get_or-set_same (replayed vs l) i v 0 (rw replayed-length h)))
    (λ n. rw (ne_eqb j i n) (get_or-set_other (replayed vs l) j i v 0 (λ e. n (sym e)) ∙ replayed_at vs l i h))

pub fits : (vs : List ℕ) (l : List Op) → InRange (length vs) l → ((i : ℕ) → i < length vs → FitsAt i (get_or vs i 0) l) → Fits vs l
fits vs [] r f = tt
fits vs (got j v ∷ l) r f = (replayed_at vs l j r.0 ∙ (f j r.0).0 refl, fits vs l r.1 (λ i h. (f i h).1))
fits vs (put j v ∷ l) r f = fits vs l r.1 f
