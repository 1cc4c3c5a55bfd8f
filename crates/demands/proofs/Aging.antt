-- An aborted desk keeps its age, since no other desk's request reaches its record; a new age is above all others; and a yield names an older
-- desk, which the oldest has not.
use mathlib.Core.Path.{◌≡◌, refl, sym, ap, ◌∙◌, subst}
use mathlib.Core.Logic.{◌≢◌}
use mathlib.Core.Bool.{true, false}
use mathlib.Core.List.{List, [], ◌∷◌}
use Prim.Native.Nat.{ℕ, ◌<◌}
use native.Mathlib.Omega.{arith}
use borrow.Author.Tests.{eq-eqb, ne_eqb}
use lib.Dec.{eqb}
use lib.ListN.{set, length}
use lib.Seq.{get_or-set_same, get_or-set_other}
use Rattle.std.specs.Prelude.{Ok, Err}
use Rattle.items.proofs.Tests.{by_cond, by_equal, clash}
use Rattle.runs.specs.Runs.{after}
use Rattle.counters.specs.Counters.{no_age, next_age}
use Rattle.counters.specs.declared.Age.{Age}
use Rattle.wire.specs.Requests.{Decoded, decode, desk_of}
use Rattle.wire.specs.declared.Request.{Request}
use Rattle.wire.specs.declared.Request.TheVariants.{Begin, Read, Write, End, Abandon}
use Rattle.wire.specs.declared.Answer.{Answer}
use Rattle.wire.specs.declared.Reason.{Reason}
use Rattle.wire.specs.declared.Reason.TheVariants.{Yield}
use Rattle.wire.specs.declared.Answer.TheVariants.{Refused, Opened, Value, Stored, Wait, Committed, Abandoned, Aborted}
use Rattle.desks.specs.Desks.{beyond, desk_in, idle, is_open, ageless}
use Rattle.desks.specs.declared.Desk.{Desk}
use Rattle.board.specs.Rules.{desk_at, answer, answered, follow, step, next}
use Rattle.board.specs.Opening.{opening}
use Rattle.demands.specs.Demands.{is_from}
use Rattle.demands.specs.Waiting.{conflicting, NamesHolder}
use Rattle.demands.specs.Keeping.{NoneFrom, OlderBefore, KeepsItsAge, NoneBecomesOlder, OldestNeverYields}
use Rattle.board.specs.declared.Board.{Board}
use Rattle.board.proofs.Sound.{Sound}
use Rattle.board.proofs.Granted.{Granted, answer-granted}
use Rattle.board.proofs.Bounds.{desk_low}
use Rattle.board.proofs.Reached.{run_sound}
use Rattle.demands.proofs.Done.{desk_now, kind, desks_after}
use Rattle.demands.proofs.Named.{way_open, names_the_oldest}

-- ---- the record of a desk after a request: its own, of another desk, and of one that others leave alone

-- the board after request q
abbrev after_one : Board → Decoded → Board
after_one b q = follow b q (answer b q)

module _ (b : Board) (q : Decoded) where
  now : (d : ℕ) → desk_at (after_one b q) d ≡ desk_in (set b.desks (desk_of q) (desk_now b q (answer b q))) d
  now d = ap (λ (desks : List Desk). desk_in desks d) (desks_after b q (answer b q) (kind (answer b q)))

  own_now : desk_of q < length b.desks → desk_at (after_one b q) (desk_of q) ≡ desk_now b q (answer b q)
  own_now low = now (desk_of q) ∙ get_or-set_same b.desks (desk_of q) (desk_now b q (answer b q)) beyond low

  other_now : (d : ℕ) → d ≢ desk_of q → desk_at (after_one b q) d ≡ desk_at b d
  other_now d n = now d ∙ get_or-set_other b.desks (desk_of q) d (desk_now b q (answer b q)) beyond n

unasked : (b : Board) (q : Decoded) (d : ℕ) → is_from q d ≡ false → desk_at (after_one b q) d ≡ desk_at b d
unfolding follow answer
unasked b (Err n) d f = refl
unasked b (Ok (e, r)) d f = other_now b (Ok (e, r)) d (λ same. clash (eq-eqb e d (sym same)) f)

left_alone : (b : Board) (d : ℕ) (qs : List (List ℕ)) → NoneFrom d qs → desk_at (after next b qs) d ≡ desk_at b d
unfolding step
left_alone b d [] n = refl
left_alone b d (q ∷ qs) n = left_alone (next b q) d qs n.1 ∙ unasked b (decode q) d n.0

-- a desk that keeps an age begins with it
kept_begins : (b : Board) (d : ℕ) (a : Age) → desk_at b d ≡ idle a → (a.0 ≡ 0 → ⊥) → answered b d Begin ≡ Opened a b.number
unfolding answered
kept_begins b d a e some = rw (e, ne_eqb a.0 0 some)

-- ---- an aborted desk

module _ {b : Board} (sound : Sound b) (q : Decoded) (low : desk_of q < 16) (w : Reason) (aborted : answer b q ≡ Aborted w) where
  abbrev k : Desk
  k = desk_at b (desk_of q)

  aborted_open : is_open k ≡ true
  aborted_open = subst (Granted b (desk_of q)) aborted (answer-granted b q)

  aborted_aged : k.age.0 ≡ 0 → ⊥
  aborted_aged none = clash (eq-eqb k.age.0 0 none) ((sound.desks.each (desk_of q) low).aged aborted_open)

  aborted-idle : desk_at (after_one b q) (desk_of q) ≡ idle k.age
  aborted-idle = own_now b q (rw sound.desks.sixteen low) ∙ ap (desk_now b q) aborted

  aborted_begins :
      (later : List (List ℕ)) → NoneFrom (desk_of q) later
      → let c = after next (after_one b q) later in answered c (desk_of q) Begin ≡ Opened k.age c.number
  aborted_begins later others =
      let c = after next (after_one b q) later in
      kept_begins c (desk_of q) k.age (left_alone (after_one b q) (desk_of q) later others ∙ aborted-idle) aborted_aged

pub keeps_its_age : KeepsItsAge
unfolding step answer
keeps_its_age t right before q later again d r w asked aborted others begin =
    rw begin
    (subst
    (λ (d : ℕ). NoneFrom d later → answered c d Begin ≡ Opened (desk_at b d).age c.number) (ap desk_of asked)
    (aborted_begins (run_sound t before) (decode q) (desk_low q) w aborted later) others)
  where
    b : Board
    b = after next (opening t) before

    c : Board
    c = after next (next b q) later

-- ---- who is older

-- the age that an answer leaves to its desk: none, the one that it had, or the next one
data AgeLeft (b : Board) (k : Desk) : Age → Type 0 where
  none_left : AgeLeft b k no_age
  left : AgeLeft b k k.age
  next_given : AgeLeft b k (next_age b.age)

age_left : (b : Board) (q : Decoded) (a : Answer) → Granted b (desk_of q) a → AgeLeft b (desk_at b (desk_of q)) (desk_now b q a).age
age_left b q (Refused n) may = left
age_left b q (Opened a s) may =
    let k = desk_at b (desk_of q) in
    subst (AgeLeft b k) (sym may.given) (by_cond (AgeLeft b k) (ageless k) (λ none. next_given) (λ some. left))
age_left b q (Value i v) may = left
age_left b q (Stored i) may = left
age_left b q (Wait i e) may = left
age_left b q (Committed n) may = none_left
age_left b q Abandoned may = none_left
age_left b q (Aborted w) may = left

module _ {b : Board} (sound : Sound b) (q : Decoded) (low : desk_of q < 16) where
  abbrev was : Desk
  was = desk_at b (desk_of q)

  -- the next age is above every other
  left_older : (d : ℕ) {x : Age} → AgeLeft b was x → eqb x.0 0 ≡ false → x.0 < (desk_at b d).age.0 → (ageless was ≡ false) × (was.age.0 < (desk_at b d).age.0)
  left_older d none_left some l = clash refl some
  left_older d left some l = (some, l)
  left_older d next_given some l = let old = sound.desks.ages.given d in absurd (omega arith)

  older_before : (d e : ℕ) → OlderBefore b (after_one b q) d e
  older_before d e same some older =
      by_equal e (desk_of q)
      (λ p.
      rw p
      (left_older d (age_left b q (answer b q) (answer-granted b q))
      (subst (λ (k : Desk). ageless k ≡ false) (here p) some) (subst (λ (k : Desk). k.age.0 < (desk_at b d).age.0) (here p) below)))
      (λ n. subst (λ (k : Desk). (ageless k ≡ false) × (k.age.0 < (desk_at b d).age.0)) (other_now b q e n) (some, below))
    where
      below : (desk_at (after_one b q) e).age.0 < (desk_at b d).age.0
      below = subst (λ (a : Age). (desk_at (after_one b q) e).age.0 < a.0) same older

      here : e ≡ desk_of q → desk_at (after_one b q) e ≡ desk_now b q (answer b q)
      here p = ap (desk_at (after_one b q)) p ∙ own_now b q (rw sound.desks.sixteen low)

pub none_becomes_older : NoneBecomesOlder
unfolding step
none_becomes_older t right before q d e = older_before (run_sound t before) (decode q) (desk_low q) d e

-- ---- the oldest

-- a conflicting holder is open
conflicting_open : {b : Board} → Sound b → (d : ℕ) (r : Request) (e : ℕ) → e < 16 → conflicting b d r e ≡ true → is_open (desk_at b e) ≡ true
conflicting_open sound d Begin e low t = clash t refl
conflicting_open sound d (Read i) e low t = way_open sound d (Read i) i false e low t
conflicting_open sound d (Write i v) e low t = way_open sound d (Write i v) i true e low t
conflicting_open sound d End e low t = clash t refl
conflicting_open sound d Abandon e low t = clash t refl

pub oldest_never_yields : OldestNeverYields
oldest_never_yields t right before q d r asked none i e yields =
    let named : NamesHolder b d r (Aborted (Yield i e)) = subst (NamesHolder b d r) yields (names_the_oldest t right before q d r asked) in
    let other = none e named.0.desk (conflicting_open (run_sound t before) d r e named.0.desk named.0.holds) in
    omega (arith, other, named.1)
  where
    b : Board
    b = after next (opening t) before
