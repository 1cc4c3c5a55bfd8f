-- The board without a journal never gives refusal 15: what is malformed is refused 1, 2 or 3, and the board's own checks give 4 to 9.
use Prim.Native.Nat.{ℕ}
use mathlib.Core.Path.{◌≡◌, refl, ap, sym}
use Rattle.std.specs.Prelude.{Some}
use Rattle.std.proofs.lemmas.Option.{none-some, same_Some}
use mathlib.Core.Bool.{Bool, true, false, not, ◌&&◌}
use mathlib.Core.List.{List, [], ◌∷◌}
use lib.Dec.{T, eqb}
use Rattle.items.proofs.Tests.{by_test, clash}
use Rattle.words.specs.Bytes.{byte}
use Rattle.wire.specs.Checks.{Check, ◌fails◌, first_failing}
use Rattle.wire.specs.Answers.{number_of}
use Rattle.wire.proofs.Checks.{unless_ways}
use Rattle.wire.specs.declared.Refusal.{Refusal}
use Rattle.wire.specs.Requests.{form_checks, malformed, numbered, decode}
use Rattle.wire.specs.declared.Request.{Request}
use Rattle.wire.specs.declared.Request.TheVariants.{Begin, Read, Write, End, Abandon}
use Rattle.wire.specs.declared.Answer.{Answer}
use Rattle.wire.specs.declared.Answer.TheVariants.{Refused, Opened, Value, Stored, Wait, Committed, Abandoned, Aborted}
use Rattle.wire.proofs.Forms.{wanted}
use Rattle.desks.proofs.Locking.{locked_ways}
use Rattle.board.specs.Rules.{desk_at, seen, checks, refusal, granted, answered, answer, step}
use Rattle.board.specs.declared.Board.{Board}
use Rattle.board.proofs.Validated.{ended_ways}
use Rattle.recovery.specs.Journaled.{NeverFifteen}

abbrev fifteen : Answer → Bool
fifteen (Refused n) = eqb n 15
fifteen (Opened a s) = false
fifteen (Value i v) = false
fifteen (Stored i) = false
fifteen (Wait i e) = false
fifteen (Committed n) = false
fifteen Abandoned = false
fifteen (Aborted w) = false

abbrev Other : Answer → Type 0
Other a = fifteen a ≡ false

-- ---- checks

-- no check gives 15: a closed list of refusals computes this
abbrev without15 : List (Check Refusal) → Bool
without15 [] = true
without15 ((t fails r) ∷ cs) = not (eqb (number_of r) 15) && without15 cs

first_other : (cs : List (Check Refusal)) → T (without15 cs) → (r : Refusal) → first_failing cs ≡ Some r → eqb (number_of r) 15 ≡ false
first_other [] h r e = absurd (none-some r e)
first_other ((t fails n) ∷ cs) h r e =
    by_test (eqb (number_of n) 15) (λ z. absurd (rw z at h))
    (λ z.
    by_test t (λ failed. rw (sym (same_Some n r (rw failed at e))) z)
    (λ passed. first_other cs (rw z at h) r (rw passed at e)))

checks_other : (b : Board) (d : ℕ) (r : Request) → T (without15 (checks b d r))
checks_other b d Begin = tt
checks_other b d (Read i) = tt
checks_other b d (Write i v) = tt
checks_other b d End = tt
checks_other b d Abandon = tt

-- ---- answers

module _ (b : Board) where
  granted_other : (d : ℕ) (r : Request) → Other (granted b d r)
  granted_other d Begin = refl
  granted_other d (Read i) =
      locked_ways Other b.desks b.guarded d i false (Value i (seen b.values (desk_at b d) i)) (λ free. refl) (λ held older. refl) (λ held younger. refl)
  granted_other d (Write i v) =
      locked_ways Other b.desks b.guarded d i true (Stored i) (λ free. refl) (λ held older. refl) (λ held younger. refl)
  granted_other d End = ended_ways Other b.sets b.number (desk_at b d) (λ unread. refl) refl (λ recent fresh. refl) refl
  granted_other d Abandon = refl

  answered_other : (d : ℕ) (r : Request) → Other (answered b d r)
  unfolding answered
  answered_other d r =
      unless_ways Other (refusal b d r) (λ n. first_other (checks b d r) (checks_other b d r) n) (λ passed. granted_other d r)

  answer_other : (q : List ℕ) → Other (answer b (decode q))
  unfolding answer decode
  answer_other q =
      unless_ways (λ x. Other (answer b (numbered x))) (malformed q) (λ n. first_other (form_checks q) tt n)
      (λ passed. answered_other (byte q 1) (wanted q))

pub never_fifteen : NeverFifteen
unfolding step
never_fifteen b q e = clash (ap fifteen e) (answer_other b q)
