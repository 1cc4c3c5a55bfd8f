-- A run that gives a count was not refused.
use Prim.Native.Nat.{ℕ}
use mathlib.Core.Path.{◌≡◌, refl}
use mathlib.Core.List.{List}
use lib.IntN.{pos}
use lib.ListN.{length}
use Rattle.std.specs.Prelude.{Option, Some, None, Err}
use Rattle.wire.specs.Checks.{unless}
use Rattle.lent.specs.Refusals.{refusal, as_number}
use Rattle.lent.specs.declared.RunRefusal.{RunRefusal}
use Rattle.lent.specs.declared.RunRefusal.TheVariants.{WrongTable, RequestsLength, AnswersLength, ValuesLength, TooManyRequests}
use Rattle.lent.proofs.Refused.{Accepted, accepted}
use Rattle.serving.specs.Run.{Outcome, told, outcome}

-- no refusal is told as a count
no_count : (r : RunRefusal) {n : ℕ} → pos n ≡ as_number (Err r) → ⊥
no_count WrongTable e = cc
no_count RequestsLength e = cc
no_count AnswersLength e = cc
no_count ValuesLength e = cc
no_count TooManyRequests e = cc

counted : (o : Option RunRefusal) (a v : List ℕ) (left : Outcome) {n : ℕ} {a' v' : List ℕ} → told (pos n) a' v' ≡ unless o (λ r. told (as_number (Err r)) a v) left → o ≡ None
counted None a v left e = refl
counted (Some r) a v left {n} e = absurd (no_count r {n = n} (cc))

pub answered : (t q a v : List ℕ) {n : ℕ} {a' v' : List ℕ} → told (pos n) a' v' ≡ outcome t q a v → Accepted t (length q) (length a) (length v)
unfolding outcome
answered t q a v e = accepted t (length q) (length a) (length v) (counted (refusal t (length q) (length a) (length v)) a v _ e)
