-- What an answer tells of the board that gave it. Only this file and, in the crate demands, Due, Named and Seen look into how answers are decided.
use mathlib.Core.Path.{◌≡◌, refl}
use mathlib.Core.Logic.{◌≢◌}
use mathlib.Core.Bool.{Bool, true, false, not, ◌&&◌}
use Prim.Native.Nat.{ℕ, ◌+◌, ◌-◌, ◌<◌, ◌≤◌, suc-le-suc}
use native.Mathlib.Nat.{le_refl}
use native.Mathlib.Omega.{arith}
use borrow.Author.Tests.{eqb-true, ltb-true, ltb-false, ne_eqb, not-false}
use lib.Dec.{ltb, leb}
use Rattle.items.specs.Items.{has}
use Rattle.items.proofs.Tests.{clash, or_left}
use Rattle.items.proofs.Laws.{empty-has, common-none}
use Rattle.counters.specs.declared.Age.{Age}
use Rattle.counters.specs.declared.Number.{Number}
use Rattle.std.specs.Prelude.{None, Ok, Err}
use Rattle.wire.specs.Requests.{Decoded, desk_of}
use Rattle.wire.specs.declared.Request.{Request}
use Rattle.wire.specs.declared.Request.TheVariants.{Begin, Read, Write, End, Abandon}
use Rattle.wire.specs.declared.Answer.{Answer}
use Rattle.wire.specs.declared.Answer.TheVariants.{Refused, Opened, Value, Stored, Wait, Committed, Abandoned, Aborted}
use Rattle.wire.proofs.Checks.{Passed, all_passed, unless_ways}
use Rattle.desks.specs.Desks.{conflicts, in_the_way, holder, locked, is_open, ageless}
use Rattle.board.specs.Rules.{seen, desk_at, is_guarded, checks, refusal, write_set, first_stale, ended, age_for, granted, answered, answer}
use Rattle.desks.specs.declared.Desk.{Desk}
use Rattle.board.specs.declared.Board.{Board}
use Rattle.board.proofs.Desks.{holds}
use Rattle.desks.proofs.Eldest.{eldest_none}
use Rattle.desks.proofs.Locking.{locked_ways}
use Rattle.board.proofs.Validated.{ended_ways}
use Rattle.board.proofs.Stale.{stale_before}

abbrev pub Open : Board → ℕ → Type 0
Open b d = is_open (desk_at b d) ≡ true

-- opened: nothing was open, and the desk kept an age or the next one was left
pub record MayBegin (b : Board) (d : ℕ) (a : Age) (s : Number) : Type 0 where
  pub closed : is_open (desk_at b d) ≡ false
  pub left : (ageless (desk_at b d) && leb 2000 b.age.0) ≡ false
  pub given : a ≡ age_for (desk_at b d) b.age
  pub start : s ≡ b.number

-- a value: the desk saw it, and no other desk has written the guarded item
pub record MayRead (b : Board) (d i v : ℕ) : Type 0 where
  pub busy : Open b d
  pub item : i < 64
  pub given : v ≡ seen b.values (desk_at b d) i
  pub lock : (e : ℕ) → e < 16 → e ≢ d → is_guarded b i ≡ true → has (desk_at b e).written i ≡ false

-- stored: no other desk holds the guarded item
pub record MayWrite (b : Board) (d i : ℕ) : Type 0 where
  pub busy : Open b d
  pub item : i < 64
  pub lock : (e : ℕ) → e < 16 → e ≢ d → is_guarded b i ≡ true → holds (desk_at b e) i ≡ false

-- committed: the next number, and what the desk has read of open items is in no write set above its start; those are all kept
pub record MayCommit (b : Board) (d n : ℕ) : Type 0 where
  pub busy : Open b d
  pub next : n ≡ b.number.0 + 1
  pub current :
      (i m : ℕ) → i < 64 → has (desk_at b d).read i ≡ true → (desk_at b d).start.0 < m → m ≤ b.number.0
      → (b.number.0 < m + 16) × (has (write_set b.sets m) i ≡ false)

abbrev pub Granted : Board → ℕ → Answer → Type 0
Granted b d (Refused n) = Unit {0}
Granted b d (Opened a s) = MayBegin b d a s
Granted b d (Value i v) = MayRead b d i v
Granted b d (Stored i) = MayWrite b d i
Granted b d (Wait i e) = i < 64
Granted b d (Committed n) = MayCommit b d n.0
Granted b d Abandoned = Open b d
Granted b d (Aborted w) = Open b d

-- ---- locks

module _ (b : Board) (d i : ℕ) (w : Bool) where
  found : ℕ
  found = holder b.desks b.guarded d i w

  unheld : found ≡ 16 → (e : ℕ) → e < 16 → e ≢ d → is_guarded b i ≡ true → conflicts (desk_at b e) i w ≡ false
  unfolding found
  unheld q e l n g =
      rw (g, ne_eqb e d n) at (eldest_none (in_the_way b.desks b.guarded d i w) (λ e. (desk_at b e).age.0) 16 (le_refl 16) q e l)

  locked-granted : Open b d → i < 64 → (a : Answer) → (found ≡ 16 → Granted b d a) → Granted b d (locked b.desks b.guarded d i w a)
  unfolding found
  locked-granted o l a f =
      locked_ways (Granted b d) b.desks b.guarded d i w a (λ e. f (eqb-true found 16 e)) (λ held older. l) (λ held younger. o)

-- ---- the end

still_kept : (n s m : ℕ) → n - s ≤ 16 → s < m → n < m + 16
still_kept n s m y l = omega arith

-- a desk that has read no open item, or no write set above its start shares an item with what it has read
ended-granted : (b : Board) (d : ℕ) → Open b d → Granted b d (ended b.sets b.number (desk_at b d))
ended-granted b d o =
    ended_ways (Granted b d) b.sets b.number (desk_at b d)
    (λ unread. record { busy = o; next = refl; current = λ i m low r l h. clash r (empty-has k.read unread i low) })
    o
    (λ recent fresh.
    record {
      busy = o;
      next = refl;
      current =
          λ i m low r l h. (
            still_kept n s m (ltb-false 16 (n - s) recent) l,
            common-none (write_set b.sets m) k.read (not-false _ (stale_before b.sets k.read s n m l (earlier m h fresh))) i low r,
          );
    })
    o
  where
    k : Desk
    k = desk_at b d

    n : ℕ
    n = b.number.0

    s : ℕ
    s = k.start.0

    earlier : (m : ℕ) → m ≤ n → ltb n (first_stale b.sets k.read s n) ≡ true → m < first_stale b.sets k.read s n
    earlier m h none = let above = ltb-true n (first_stale b.sets k.read s n) none in omega arith

-- ---- all answers

pub is_open_lem : (k : Desk) → not (is_open k) ≡ false → is_open k ≡ true
is_open_lem k e = not-false (is_open k) e

pub low_item : (i : ℕ) → ltb 63 i ≡ false → i < 64
low_item i e = suc-le-suc (ltb-false 63 i e)

-- what is not refused passed each check
pub checks_passed : (b : Board) (d : ℕ) (r : Request) → refusal b d r ≡ None → Passed (checks b d r)
checks_passed b d r e = all_passed (checks b d r) e

granted-granted : (b : Board) (d : ℕ) (r : Request) → Passed (checks b d r) → Granted b d (granted b d r)
granted-granted b d Begin p = record { closed = p.0; left = p.1.0; given = refl; start = refl }
granted-granted b d (Read i) p =
    let o : Open b d = is_open_lem (desk_at b d) p.0 in
    let low : i < 64 = low_item i p.1.0 in
    locked-granted b d i false o low (Value i (seen b.values (desk_at b d) i))
    (λ q. record { busy = o; item = low; given = refl; lock = λ e l n g. or_left _ _ (unheld b d i false q e l n g) })
granted-granted b d (Write i v) p =
    let o : Open b d = is_open_lem (desk_at b d) p.0 in
    let low : i < 64 = low_item i p.1.0 in
    locked-granted b d i true o low (Stored i) (λ q. record { busy = o; item = low; lock = unheld b d i true q })
granted-granted b d End p = ended-granted b d (is_open_lem (desk_at b d) p.0)
granted-granted b d Abandon p = is_open_lem (desk_at b d) p.0

pub answered-granted : (b : Board) (d : ℕ) (r : Request) → Granted b d (answered b d r)
unfolding answered
answered-granted b d r =
    unless_ways (Granted b d) (refusal b d r) (λ n e. tt) (λ e. granted-granted b d r (checks_passed b d r e))

pub answer-granted : (b : Board) (q : Decoded) → Granted b (desk_of q) (answer b q)
unfolding answer
answer-granted b (Err n) = tt
answer-granted b (Ok (d, r)) = answered-granted b d r
