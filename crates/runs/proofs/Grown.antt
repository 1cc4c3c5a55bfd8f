-- A run with one request more, over any board; and what each request keeps, a run keeps.
use mathlib.Core.Path.{◌≡◌, refl}
use mathlib.Core.List.{List, [], ◌∷◌, ◌++◌}
use Rattle.runs.specs.Runs.{after}

module _ {S Q : Type 0} (next : S → Q → S) where
  pub after_more : (s : S) (qs : List Q) (q : Q) → after next s (qs ++ q ∷ []) ≡ next (after next s qs) q
  after_more s [] q = refl
  after_more s (x ∷ qs) q = after_more (next s x) qs q

  pub after_keeps : (P : S → Type 0) → ((s : S) → P s → (q : Q) → P (next s q)) → (s : S) → P s → (qs : List Q) → P (after next s qs)
  after_keeps P keeps s p [] = p
  after_keeps P keeps s p (q ∷ qs) = after_keeps P keeps (next s q) (keeps s p q) qs
