-- Where no check failed, each passed.
use mathlib.Core.Path.{◌≡◌, refl, sym}
use mathlib.Core.Bool.{true, false}
use mathlib.Core.List.{List, [], ◌∷◌}
use Rattle.std.specs.Prelude.{Option, Some, None}
use Rattle.std.proofs.lemmas.Option.{none-some}
use Rattle.wire.specs.Checks.{Check, ◌fails◌, first_failing, unless}

abbrev pub Passed : {R : Type 0} → List (Check R) → Type 0
Passed [] = Unit {0}
Passed ((t fails n) ∷ cs) = (t ≡ false) × Passed cs

pub all_passed : {R : Type 0} (cs : List (Check R)) → first_failing cs ≡ None → Passed cs
all_passed [] e = tt
all_passed ((true fails r) ∷ cs) e = absurd (none-some r (sym e))
all_passed ((false fails r) ∷ cs) e = (refl, all_passed cs e)

-- a fact of both: where a check failed, and where none did
pub unless_ways {ℓ} : {R A : Type 0} (P : A → Type ℓ) (o : Option R) {refused : R → A} {passed : A} → ((r : R) → o ≡ Some r → P (refused r)) → (o ≡ None → P passed) → P (unless o refused passed)
unless_ways P None p q = q refl
unless_ways P (Some r) p q = p r refl

-- the same where none did
pub unless_same : {R A : Type 0} (o : Option R) (refused : R → A) {x y : A} → (o ≡ None → x ≡ y) → unless o refused x ≡ unless o refused y
unless_same None refused same = same refl
unless_same (Some r) refused same = refl
