-- Runs over any board: `next` is the board after a request, `reply` the answer to it.
-- A run's requests are handed over one at a time.
use Rattle.std.specs.Prelude.{ℕ, zero, suc, ◌≡◌, List, [], ◌∷◌, ◌++◌, length}

-- the board after requests
abbrev pub after : {S Q : Type 0} → (S → Q → S) → S → List Q → S
after next s [] = s
after next s (q ∷ qs) = after next (next s q) qs

-- the answers to them
abbrev pub answers : {S Q A : Type 0} → (S → Q → S) → (S → Q → A) → S → List Q → List A
answers next reply s [] = []
answers next reply s (q ∷ qs) = reply s q ∷ answers next reply (next s q) qs

-- ---- exchanging two neighbours

-- a list with its places n and n + 1 exchanged
abbrev pub exchange : {A : Type 0} → ℕ → List A → List A
exchange zero [] = []
exchange zero (x ∷ []) = x ∷ []
exchange zero (x ∷ y ∷ zs) = y ∷ x ∷ zs
exchange (suc n) [] = []
exchange (suc n) (x ∷ xs) = x ∷ exchange n xs

-- of a run with the neighbours p and q: exchanged, they leave the same board at its end, and each request has the answer that it had
pub record Exchanged {S Q A : Type 0} (next : S → Q → S) (reply : S → Q → A) (s : S) (before : List Q) (p q : Q) (later : List Q) : Type 0 where
  pub board : after next s (before ++ q ∷ p ∷ later) ≡ after next s (before ++ p ∷ q ∷ later)
  pub replies :
      answers next reply s (before ++ q ∷ p ∷ later) ≡ exchange (length before) (answers next reply s (before ++ p ∷ q ∷ later))
