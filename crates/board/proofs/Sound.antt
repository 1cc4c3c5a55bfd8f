-- What holds of every board that an opening and requests can leave: nothing of a history is in it.
use mathlib.Core.Path.{◌≡◌, refl, sym, ◌∙◌}
use mathlib.Core.Bool.{true, false}
use mathlib.Core.List.{List}
use Prim.Native.Nat.{ℕ, ◌+◌, ◌%◌, ◌<◌, ◌≤◌, zero-le}
use lib.Dec.{eqb}
use native.Mathlib.Nat.{le_refl}
use native.Mathlib.Omega.{arith}
use borrow.Author.Tests.{leb-false, lt-ltb, le-ltb, ne_eqb}
use lib.ListN.{set, length, length-set, replicate, get_or-replicate}
use Rattle.items.specs.Items.{has}
use Rattle.items.proofs.Tests.{by_cond, clash}
use Rattle.counters.specs.Counters.{no_age, next_age, no_number}
use Rattle.counters.specs.declared.Age.{Age}
use Rattle.counters.specs.declared.Number.{Number}
use Rattle.table.specs.Table.{value_at, floor_at, ceiling_at}
use Rattle.wire.specs.Requests.{Decoded, decode, desk_of, value_of}
use Rattle.wire.specs.declared.Answer.{Answer}
use Rattle.wire.specs.declared.Answer.TheVariants.{Refused, Opened, Value, Stored, Wait, Committed, Abandoned, Aborted}
use Rattle.desks.specs.Desks.{idle, opened, beyond, desk_in, ageless, copy_of}
use Rattle.board.specs.Rules.{reading, writing, desk_at, is_guarded, put, last_given, begun, committed, answer, follow, step}
use Rattle.board.specs.Opening.{opening}
use Rattle.desks.specs.declared.Desk.{Desk}
use Rattle.board.specs.declared.Board.{Board}
use Rattle.board.proofs.Filled.{filled-length}
use Rattle.board.proofs.Granted.{Granted, MayBegin, MayRead, MayWrite, MayCommit, answer-granted}
use Rattle.board.proofs.Bounds.{desk_low}
use Rattle.board.proofs.Desks.{DeskSound, blank_excludes, blank_sound, reading_sound, reading_excludes, writing_sound, writing_excludes, excludes_writing}
use Rattle.desks.proofs.Ages.{AgesApart, ages_kept, ages_dropped, ages_begun, ages_none}
use Rattle.board.proofs.Seats.{tally, DesksSound, seated}

pub record Sound (b : Board) : Type 0 where
  pub values : length b.values ≡ 64
  pub floors : length b.floors ≡ 64
  pub ceilings : length b.ceilings ≡ 64
  pub sets : length b.sets ≡ 16
  pub limit : b.age.0 ≤ 2000
  pub desks : DesksSound b.guarded b.number.0 b.age.0 b.desks

-- ---- one request

module _ {b : Board} (sound : Sound b) (d : ℕ) (hd : d < 16) where
  k : Desk
  k = desk_at b d

  ok : DeskSound b.guarded b.number.0 k
  unfolding k
  ok = sound.desks.each d hd

  long : d < length b.desks
  long = rw sound.desks.sixteen hd

  -- one desk's record changes, and nothing else
  put_sound : (m : Desk) → DesksSound b.guarded b.number.0 b.age.0 (set b.desks d m) → Sound (put b d m)
  put_sound m ds =
      record
      { values = sound.values; floors = sound.floors; ceilings = sound.ceilings; sets = sound.sets; limit = sound.limit; desks = ds }

  -- the desk is freed, and keeps age a
  freed :
      (a : Age) → AgesApart b.age.0 (set b.desks d (idle a)) → {number' : ℕ} → b.number.0 ≤ number'
      → number' + tally (idle a) ≤ b.number.0 + tally (desk_at b d)
      → DesksSound b.guarded number' b.age.0 (set b.desks d (idle a))
  freed a ages later room =
      seated sound.desks d hd (idle a) (blank_sound 0 a no_number zero-le (λ f. refl) (λ t. clash t refl))
      (λ e he n. blank_excludes 0 a no_number b.guarded (desk_at b e)) later (omega arith) ages

  -- it keeps none, or the one that it has
  dropped : AgesApart b.age.0 (set b.desks d (idle no_age))
  dropped = ages_dropped sound.desks.ages d long (idle no_age) refl

  sound_abandon : Sound (put b d (idle no_age))
  sound_abandon = put_sound (idle no_age) (freed no_age dropped (le_refl b.number.0) (omega arith))

  sound_abort : Sound (put b d (idle (desk_at b d).age))
  unfolding k
  sound_abort =
      put_sound (idle k.age)
      (freed k.age (ages_kept sound.desks.ages d long (idle k.age) refl) (le_refl b.number.0) (le_refl (b.number.0 + tally k)))

  -- a transaction begins with age a, which no other desk has
  begins :
      (a : Age) (s : Number) → s ≡ b.number → eqb a.0 0 ≡ false → (last_given b.age a).0 ≤ 2000
      → 1 + b.age.0 ≤ tally (desk_at b d) + (last_given b.age a).0
      → AgesApart (last_given b.age a).0 (set b.desks d (opened a s))
      → Sound (begun b d a s)
  begins a s start some limit room ages =
      record {
        values = sound.values;
        floors = sound.floors;
        ceilings = sound.ceilings;
        sets = sound.sets;
        limit = limit;
        desks =
            seated sound.desks d hd (opened a s)
            (blank_sound 1 a s (rw start (le_refl b.number.0)) (λ f. clash refl f) (λ t. some))
            (λ e he n. blank_excludes 1 a s b.guarded (desk_at b e)) (le_refl b.number.0) (rw some (omega (arith, room))) ages;
      }

  sound_begun : (a : Age) (s : Number) → MayBegin b d a s → Sound (begun b d a s)
  unfolding k
  sound_begun a s may =
      rw may.given
      (by_cond (λ (x : Age). Sound (begun b d x s)) (ageless k)
      (λ none.
      let left : b.age.0 < 2000 = leb-false 2000 b.age.0 (rw none at may.left) in
      let new : last_given b.age (next_age b.age) ≡ next_age b.age = rw (lt-ltb b.age.0 (b.age.0 + 1) (omega arith)) in
      begins (next_age b.age) s may.start (ne_eqb (b.age.0 + 1) 0 (λ z. omega arith)) (rw new (omega arith)) (rw (new, none) (omega arith))
      (rw new (ages_begun sound.desks.ages d long (opened (next_age b.age) s) (omega arith))))
      (λ some.
      let old : last_given b.age k.age ≡ b.age = rw (le-ltb b.age.0 k.age.0 (sound.desks.ages.given d)) in
      begins k.age s may.start some (rw old sound.limit) (rw (old, some) (omega arith))
      (rw old (ages_kept sound.desks.ages d long (opened k.age s) refl))))

  sound_read : (i v : ℕ) → MayRead b d i v → Sound (put b d (reading (desk_at b d) i (is_guarded b i)))
  unfolding k
  sound_read i v may =
      put_sound (reading k i (is_guarded b i))
      (seated sound.desks d hd (reading k i (is_guarded b i)) (reading_sound b.guarded k i ok may.busy)
      (λ e he n. (
        sound.desks.locks d e hd he (λ q. n (sym q)),
        reading_excludes b.guarded k i (desk_at b e) (may.lock e he n) (sound.desks.locks e d he hd n),
      ))
      (le_refl b.number.0) (le_refl (b.number.0 + tally k + b.age.0))
      (ages_kept sound.desks.ages d long (reading k i (is_guarded b i)) refl))

  sound_write : (i v : ℕ) → MayWrite b d i → Sound (put b d (writing (desk_at b d) i v))
  unfolding k
  sound_write i v may =
      put_sound (writing k i v)
      (seated sound.desks d hd (writing k i v) (writing_sound b.guarded k i v ok may.busy)
      (λ e he n. (
        writing_excludes b.guarded k i v (desk_at b e) (may.lock e he n) (sound.desks.locks d e hd he (λ q. n (sym q))),
        excludes_writing b.guarded k i v (desk_at b e) (may.lock e he n) (sound.desks.locks e d he hd n),
      ))
      (le_refl b.number.0) (le_refl (b.number.0 + tally k + b.age.0))
      (ages_kept sound.desks.ages d long (writing k i v) refl))

  sound_commit : (n : Number) → MayCommit b d n.0 → Sound (committed b d n)
  unfolding k
  sound_commit n may =
      record {
        values = filled-length (has k.written) (copy_of k) 64 b.values ∙ sound.values;
        floors = sound.floors;
        ceilings = sound.ceilings;
        sets = length-set b.sets (n.0 % 16) k.written ∙ sound.sets;
        limit = sound.limit;
        desks = freed no_age dropped (omega (arith, may.next)) (rw (ok.aged may.busy) (omega (arith, may.next)));
      }

-- by the answer
pub follow_sound : {b : Board} → Sound b → (q : Decoded) → desk_of q < 16 → (a : Answer) → Granted b (desk_of q) a → Sound (follow b q a)
unfolding follow
follow_sound sound q hd (Refused n) may = sound
follow_sound sound q hd (Opened a s) may = sound_begun sound (desk_of q) hd a s may
follow_sound sound q hd (Value i v) may = sound_read sound (desk_of q) hd i v may
follow_sound sound q hd (Stored i) may = sound_write sound (desk_of q) hd i (value_of q) may
follow_sound sound q hd (Wait i e) may = sound
follow_sound sound q hd (Committed n) may = sound_commit sound (desk_of q) hd n may
follow_sound sound q hd Abandoned may = sound_abandon sound (desk_of q) hd
follow_sound sound q hd (Aborted w) may = sound_abort sound (desk_of q) hd

pub step_sound : {b : Board} → Sound b → (q : List ℕ) → Sound (step b q).board
unfolding step
step_sound {b} sound q = follow_sound sound (decode q) (desk_low q) (answer b (decode q)) (answer-granted b (decode q))

-- ---- an opening

pub opening_sound : (t : List ℕ) → Sound (opening t)
unfolding opening
opening_sound t =
    record {
      values = filled-length (λ i. true) (value_at t) 64 (replicate 64 0);
      floors = filled-length (λ i. true) (floor_at t) 64 (replicate 64 0);
      ceilings = filled-length (λ i. true) (ceiling_at t) 64 (replicate 64 0);
      sets = refl;
      limit = zero-le;
      desks =
          record {
            sixteen = refl;
            each = λ d hd. rw (get_or-replicate 16 d (idle no_age) beyond hd) (blank_sound 0 no_age no_number zero-le (λ f. refl) (λ t. clash t refl));
            locks =
                λ d e hd he n.
                rw (get_or-replicate 16 d (idle no_age) beyond hd) (blank_excludes 0 no_age no_number (opening t).guarded (desk_in (replicate 16 (idle no_age)) e)).0;
            counted = zero-le;
            ages = ages_none 16;
          };
    }
