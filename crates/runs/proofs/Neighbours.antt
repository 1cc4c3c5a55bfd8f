-- From two neighbouring requests to a whole run, over any board: what holds of a pair at the place where it stands holds of the run.
use mathlib.Core.Path.{◌≡◌, sym, ap}
use mathlib.Core.List.{List, [], ◌∷◌}
use Rattle.runs.specs.Runs.{after, answers, Exchanged}

-- on board s, the requests p and q may be exchanged: neither's answer turns on the other, and the board is the same after both
pub record Commute {S Q A : Type 0} (next : S → Q → S) (reply : S → Q → A) (s : S) (p q : Q) : Type 0 where
  pub board : next (next s q) p ≡ next (next s p) q
  pub first : reply (next s q) p ≡ reply s p
  pub second : reply (next s p) q ≡ reply s q

module _ {S Q A : Type 0} {next : S → Q → S} {reply : S → Q → A} where
  pub turned : {s : S} {p q : Q} → Commute next reply s q p → Commute next reply s p q
  turned c = record { board = sym c.board; first = c.second; second = c.first }

  here : {s : S} {p q : Q} → Commute next reply s p q → (later : List Q) → Exchanged next reply s [] p q later
  here {s} {p} {q} c later =
      record {
        board = ap (λ (t : S). after next t later) c.board;
        replies = λ i. sym c.second i ∷ c.first i ∷ answers next reply (c.board i) later;
      }

-- `Sound` is what the openings give and each request keeps; `May` is what allows an exchange
module _ {S Q A : Type 0} (next : S → Q → S) (reply : S → Q → A) (Sound : S → Type 0) (May : S → Q → Q → Type 0)
    (kept : (s : S) (q : Q) → Sound s → Sound (next s q))
    (pair : (s : S) (p q : Q) → Sound s → May s p q → Commute next reply s p q) where
  pub exchanged : (s : S) → Sound s → (before : List Q) (p q : Q) (later : List Q)
      → May (after next s before) p q → Exchanged next reply s before p q later
  exchanged s h [] p q later m = here (pair s p q h m) later
  exchanged s h (x ∷ before) p q later m =
      let e = exchanged (next s x) (kept s x h) before p q later m in
      record { board = e.board; replies = ap (λ (l : List A). reply s x ∷ l) e.replies }
