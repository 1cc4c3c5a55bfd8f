-- A wait and a yield name the oldest of the conflicting holders; it is the only one, since no two desks have the same age.
use mathlib.Core.Path.{◌≡◌, refl, sym, ◌∙◌}
use mathlib.Core.Logic.{◌≢◌}
use mathlib.Core.Bool.{Bool, true, false, not, ◌&&◌}
use Prim.Native.Nat.{ℕ, ◌<◌, ◌≤◌}
use native.Mathlib.Nat.{le_refl}
use native.Mathlib.Omega.{arith}
use borrow.Author.Tests.{eq-eqb, ltb-true, ltb-false}
use lib.Dec.{eqb, ltb}
use Rattle.wire.proofs.Checks.{unless_ways}
use Rattle.items.proofs.Tests.{by_test, by_cond, clash, and_left, and_right}
use Rattle.wire.specs.declared.Request.{Request}
use Rattle.wire.specs.declared.Request.TheVariants.{Begin, Read, Write, End, Abandon}
use Rattle.wire.specs.declared.Answer.{Answer}
use Rattle.wire.specs.declared.Answer.TheVariants.{Value, Stored}
use Rattle.desks.specs.Desks.{conflicts, in_the_way, holder, locked, is_open}
use Rattle.board.specs.Rules.{seen, desk_at, is_guarded, refusal, granted, answered, answer, step}
use Rattle.demands.specs.Demands.{names}
use Rattle.demands.specs.Waiting.{conflicting, Older, OldestHolder, NamesHolder, NamesTheOldest}
use Rattle.board.specs.declared.Board.{Board}
use Rattle.desks.proofs.Eldest.{eldest_picked, eldest_below, eldest_least}
use Rattle.desks.proofs.Locking.{idle_clear, locked_ways}
use Rattle.board.proofs.Validated.{ended_ways}
use Rattle.board.proofs.Sound.{Sound}
use Rattle.board.proofs.Reached.{run_sound}

-- request r of desk d asks for the lock of item i
module _ {b : Board} (sound : Sound b) (d : ℕ) (r : Request) (i : ℕ) (w : Bool) where
  abbrev way : ℕ → Bool
  way = in_the_way b.desks b.guarded d i w

  abbrev age : ℕ → ℕ
  age e = (desk_at b e).age.0

  abbrev found : ℕ
  found = holder b.desks b.guarded d i w

  -- a desk in the way is open
  pub way_open : (e : ℕ) → e < 16 → way e ≡ true → is_open (desk_at b e) ≡ true
  way_open e low t =
      by_test (is_open (desk_at b e)) (λ o. o)
      (λ closed.
      clash (and_right (is_guarded b i && not (eqb e d)) (conflicts (desk_at b e) i w) t)
      (rw ((sound.desks.each e low).closed closed) (idle_clear (desk_at b e).age i w)))

  -- and so has an age, which no other desk has
  open_apart : (e f : ℕ) → e < 16 → is_open (desk_at b e) ≡ true → e ≢ f → age e ≡ age f → ⊥
  open_apart e f low o n same =
      clash (eq-eqb (age e) 0 (sound.desks.ages.apart e f n same)) ((sound.desks.each e low).aged o)

  -- and another one
  way_other : (e : ℕ) → way e ≡ true → d ≢ e
  way_other e t same =
      clash (and_right (is_guarded b i) (not (eqb e d)) (and_left (is_guarded b i && not (eqb e d)) (conflicts (desk_at b e) i w) t))
      (rw (eq-eqb e d (sym same)))

  before : (e f : ℕ) → age e ≤ age f → (age e ≡ age f → ⊥) → Older b e f
  before e f l n = omega arith

  module _ (held : eqb found 16 ≡ false) where
    picked : way found ≡ true
    picked = eldest_picked way age 16 held

    low : found < 16
    low = eldest_below way age 16 held

    oldest : (f : ℕ) → f < 16 → way f ≡ true → f ≢ found → Older b found f
    oldest f h t n =
        before found f (eldest_least way age 16 (le_refl 16) f h t)
        (open_apart found f low (way_open found low picked) (λ p. n (sym p)))

    older_than : ltb (age d) (age found) ≡ false → Older b found d
    older_than f =
        before found d (ltb-false (age d) (age found) f)
        (open_apart found d low (way_open found low picked) (λ p. way_other found picked (sym p)))

  module _ (named : names r i ≡ true) (same : (e : ℕ) → conflicting b d r e ≡ way e) where
    named_oldest : eqb found 16 ≡ false → OldestHolder b d r i found
    named_oldest held =
        record {
          item = named;
          desk = low held;
          holds = same found ∙ picked held;
          oldest = λ f h t. oldest held f h (sym (same f) ∙ t);
        }

    locked_names : (x : Answer) → NamesHolder b d r x → NamesHolder b d r (locked b.desks b.guarded d i w x)
    locked_names x granted =
        locked_ways (NamesHolder b d r) b.desks b.guarded d i w x (λ free. granted)
        (λ held older. (named_oldest held, ltb-true (age d) (age found) older))
        (λ held younger. (named_oldest held, older_than held younger))

module _ {b : Board} (sound : Sound b) (d : ℕ) where
  granted_names : (r : Request) → NamesHolder b d r (granted b d r)
  granted_names Begin = tt
  granted_names (Read i) = locked_names sound d (Read i) i false (eq-eqb i i refl) (λ e. refl) (Value i (seen b.values (desk_at b d) i)) tt
  granted_names (Write i v) = locked_names sound d (Write i v) i true (eq-eqb i i refl) (λ e. refl) (Stored i) tt
  granted_names End = ended_ways (NamesHolder b d End) b.sets b.number (desk_at b d) (λ unread. tt) tt (λ recent fresh. tt) tt
  granted_names Abandon = tt

  answered_names : (r : Request) → NamesHolder b d r (answered b d r)
  unfolding answered
  answered_names r =
      unless_ways (NamesHolder b d r) (refusal b d r) (λ n refused. tt) (λ passed. granted_names r)

pub names_the_oldest : NamesTheOldest
unfolding step answer
names_the_oldest t right before q d r asked = rw asked (answered_names (run_sound t before) d r)
