-- What an answer does to a board, by its kind: a begin's and an end's reach the common part, and every other changes its own desk's record alone.
use mathlib.Core.Path.{◌≡◌, refl, sym, ap, ◌∙◌}
use mathlib.Core.Logic.{◌≢◌}
use mathlib.Core.Bool.{true, false}
use Prim.Native.Nat.{ℕ}
use lib.ListN.{get_or, set}
use lib.Seq.{set-get_or, set_comm, get_or-set_other}
use Rattle.items.specs.Items.{has}
use Rattle.items.specs.declared.Items.{Items}
use Rattle.items.proofs.Tests.{clash}
use Rattle.counters.specs.Counters.{no_age}
use Rattle.counters.specs.declared.Age.{Age}
use Rattle.counters.specs.declared.Number.{Number}
use Rattle.wire.specs.Requests.{Decoded, decode, desk_of, value_of}
use Rattle.wire.specs.declared.Request.{Request}
use Rattle.wire.specs.declared.Answer.{Answer}
use Rattle.wire.specs.declared.Answer.TheVariants.{Refused, Opened, Value, Stored, Wait, Committed, Abandoned, Aborted}
use Rattle.desks.specs.Desks.{beyond, idle, opened, copy_of}
use Rattle.board.specs.Rules.{reading, writing, desk_at, with_desks, put, begun, committed, answer, follow, step}
use Rattle.demands.specs.Demands.{bound, changes_nothing, Unchanged}
use Rattle.desks.specs.declared.Desk.{Desk}
use Rattle.board.specs.declared.Board.{Board}
use Rattle.board.proofs.Filled.{filled_other}
use Rattle.demands.proofs.Due.{Due}
use Rattle.demands.proofs.Seen.{ranges, counts}

-- ---- the desk's record after an answer: g is the set of guarded items, k the record before, v the value of a write

abbrev pub desk_after : Items → Desk → ℕ → Answer → Desk
desk_after g k v (Refused n) = k
desk_after g k v (Opened a s) = opened a s
desk_after g k v (Value i x) = reading k i (has g i)
desk_after g k v (Stored i) = writing k i v
desk_after g k v (Wait i e) = k
desk_after g k v (Committed n) = idle no_age
desk_after g k v Abandoned = idle no_age
desk_after g k v (Aborted w) = idle k.age

abbrev pub desk_now : Board → Decoded → Answer → Desk
desk_now b q a = desk_after b.guarded (desk_at b (desk_of q)) (value_of q) a

-- ---- three kinds of answers

-- it changes its own desk's record alone
abbrev pub Own : Answer → Type 0
Own a = (b : Board) (q : Decoded) → follow b q a ≡ put b (desk_of q) (desk_now b q a)

pub data Kind : Answer → Type 0 where
  opens : (a : Age) (s : Number) → Kind (Opened a s)
  commits : (n : Number) → Kind (Committed n)
  own : {a : Answer} → Own a → Kind a

put_same : (b : Board) (d : ℕ) → b ≡ put b d (desk_at b d)
put_same b d = sym (ap (with_desks b) (set-get_or b.desks d beyond))

pub kind : (a : Answer) → Kind a
unfolding follow
kind (Refused n) = own (λ b q. put_same b (desk_of q))
kind (Opened a s) = opens a s
kind (Value i v) = own (λ b q. refl)
kind (Stored i) = own (λ b q. refl)
kind (Wait i e) = own (λ b q. put_same b (desk_of q))
kind (Committed n) = commits n
kind Abandoned = own (λ b q. refl)
kind (Aborted w) = own (λ b q. refl)

-- a request that is no begin and no end gets no other
pub own_of : (r : Request) (a : Answer) → Due r a → bound r ≡ false → Own a
own_of r a = go a (kind a)
  where
    go : (a : Answer) → Kind a → Due r a → bound r ≡ false → Own a
    go a (opens x s) t f = clash t f
    go a (commits n) t f = clash t f
    go a (own h) t f = h

-- ---- what stays

module _ (b : Board) (q : Decoded) where
  pub desks_after : (a : Answer) → Kind a → (follow b q a).desks ≡ set b.desks (desk_of q) (desk_now b q a)
  unfolding follow
  desks_after a (opens x s) = refl
  desks_after a (commits n) = refl
  desks_after a (own h) = ap (λ (c : Board). c.desks) (h b q)

  pub ranges_after : (a : Answer) → Kind a → ranges b ≡ ranges (follow b q a)
  unfolding follow
  ranges_after a (opens x s) = refl
  ranges_after a (commits n) = refl
  ranges_after a (own h) = sym (ap ranges (h b q))

  pub guarded_after : (a : Answer) → Kind a → b.guarded ≡ (follow b q a).guarded
  unfolding follow
  guarded_after a (opens x s) = refl
  guarded_after a (commits n) = refl
  guarded_after a (own h) = sym (ap (λ (c : Board). c.guarded) (h b q))

  pub counts_after : (r : Request) (a : Answer) → Due r a → bound r ≡ false → counts b ≡ counts (follow b q a)
  counts_after r a t f = sym (ap counts (own_of r a t f b q))

  -- the values of items that the desk has not written
  pub value_after : (i : ℕ) → has (desk_at b (desk_of q)).written i ≡ false → (a : Answer) → Kind a → get_or b.values i 0 ≡ get_or (follow b q a).values i 0
  unfolding follow
  value_after i h a (opens x s) = refl
  value_after i h a (commits n) =
      let k = desk_at b (desk_of q) in sym (filled_other (has k.written) (copy_of k) 64 b.values i (λ l. h))
  value_after i h a (own e) = sym (ap (λ (c : Board). get_or c.values i 0) (e b q))

-- ---- another desk's record put before or after

module _ (b : Board) (q : Decoded) (e : ℕ) (k : Desk) (ne : desk_of q ≢ e) where
  abbrev d : ℕ
  d = desk_of q

  away : desk_at (put b e k) d ≡ desk_at b d
  away = get_or-set_other b.desks e d k beyond ne

  swapped : (x : Desk) → set (set b.desks e k) d x ≡ set (set b.desks d x) e k
  swapped x = set_comm b.desks e d k x (λ p. ne (sym p))

  pub follow_put : (a : Answer) → Kind a → follow (put b e k) q a ≡ put (follow b q a) e k
  unfolding follow
  follow_put a (opens x s) = ap (with_desks (begun b d x s)) (swapped (opened x s))
  follow_put a (commits n) = rw away (ap (with_desks (committed b d n)) (swapped (idle no_age)))
  follow_put a (own h) =
      h (put b e k) q
      ∙ ap (λ (x : Desk). put (put b e k) d (desk_after b.guarded x (value_of q) a)) away
      ∙ ap (with_desks b) (swapped (desk_now b q a))
      ∙ ap (λ (c : Board). put c e k) (sym (h b q))

-- ---- a refusal or a wait changes nothing

follow-nothing : (b : Board) (q : Decoded) (a : Answer) → changes_nothing a ≡ true → follow b q a ≡ b
unfolding follow
follow-nothing b q (Refused n) e = refl
follow-nothing b q (Opened a s) e = clash e refl
follow-nothing b q (Value i v) e = clash e refl
follow-nothing b q (Stored i) e = clash e refl
follow-nothing b q (Wait i h) e = refl
follow-nothing b q (Committed n) e = clash e refl
follow-nothing b q Abandoned e = clash e refl
follow-nothing b q (Aborted w) e = clash e refl

pub unchanged : Unchanged
unfolding step
unchanged b q e = follow-nothing b (decode q) (answer b (decode q)) e
