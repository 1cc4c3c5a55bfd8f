-- What is read of records that close nothing: the whole commits and the values after them stay.
use Prim.Native.Nat.{ℕ, zero, suc, ◌*◌, ◌≤◌, ◌<◌}
use mathlib.Core.Path.{◌≡◌, refl, ap, sym, ◌∙◌}
use mathlib.Core.Logic.{◌≢◌}
use mathlib.Core.List.{List}
use native.Mathlib.Omega.{arith}
use Rattle.items.proofs.Tests.{by_cond, by_equal, clash}
use Rattle.runs.specs.Runs.{after}
use Rattle.runs.proofs.Grown.{after_more}
use Rattle.words.specs.Bytes.{byte}
use Rattle.pieces.specs.Pieces.{eights_of}
use Rattle.pieces.proofs.Eights.{eight_at}
use Rattle.restart.specs.Restart.{Reading, fits_item, fits_closing, read}
use Rattle.restart.proofs.Fitting.{no_closing}
use Rattle.recovery.proofs.Pieces.{first_byte}

-- the same commits are whole
abbrev pub Same : Reading → Reading → Type 0
Same at then = (then.commits ≡ at.commits) × (then.whole ≡ at.whole)

one_quiet : (t : List ℕ) (at : Reading) (r : List ℕ) → byte r 0 ≢ 2 → Same at (read t at r)
unfolding read
one_quiet t at r h =
    by_cond (Same at) at.stopped (λ e. (refl, refl))
    (λ e. by_cond (Same at) (fits_item t at r) (λ f. (refl, refl)) (λ f. by_cond (Same at) (fits_closing at r) (λ c. clash c (sym (no_closing at r h))) (λ c. (refl, refl))))

-- what is read of the first n records of j is as whole as what is read of the first m, where none of those between is a closing record
pub quiet : (t : List ℕ) (at : Reading) (j : List ℕ) (m n : ℕ) → m ≤ n → ((k : ℕ) → m ≤ k → k < n → byte j (8 * k) ≢ 2)
    → Same (after (read t) at (eights_of j m)) (after (read t) at (eights_of j n))
unfolding eights_of
quiet t at j m zero h none = let e : m ≡ 0 = omega arith in rw e (refl, refl)
quiet t at j m (suc n) h none =
    by_equal m (suc n) (λ e. rw e (refl, refl))
    (λ ne.
    let before = quiet t at j m n (omega arith) (λ k l u. none k l (omega arith)) in
    let last = one_quiet t (after (read t) at (eights_of j n)) (eight_at j n) (λ two. none n (omega arith) (omega arith) (sym (first_byte j n) ∙ two)) in
    let e : after (read t) at (eights_of j (suc n)) ≡ read t (after (read t) at (eights_of j n)) (eight_at j n) = after_more (read t) at (eights_of j n) (eight_at j n) in
    (ap (λ (r : Reading). r.commits) e ∙ last.0 ∙ before.0, ap (λ (r : Reading). r.whole) e ∙ last.1 ∙ before.1))
