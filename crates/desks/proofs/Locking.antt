-- What is answered of a lock, by what was found.
use mathlib.Core.Path.{◌≡◌}
use mathlib.Core.Bool.{Bool, true, false, and-false}
use mathlib.Core.List.{List}
use Prim.Native.Nat.{ℕ, ◌≤◌}
use native.Mathlib.Nat.{le_refl, le_antisymm}
use lib.Dec.{eqb, ltb}
use Rattle.items.specs.declared.Items.{Items}
use Rattle.items.proofs.Tests.{by_cond}
use Rattle.items.proofs.Laws.{has-none}
use Rattle.counters.specs.declared.Age.{Age}
use Rattle.wire.specs.declared.Reason.TheVariants.{Yield}
use Rattle.wire.specs.declared.Answer.{Answer}
use Rattle.wire.specs.declared.Answer.TheVariants.{Wait, Aborted}
use Rattle.desks.specs.Desks.{idle, desk_in, conflicts, in_the_way, holder, locked}
use Rattle.desks.specs.declared.Desk.{Desk}
use Rattle.desks.proofs.Eldest.{eldest_le}

-- an idle desk is in nobody's way
pub idle_clear : (a : Age) (i : ℕ) (w : Bool) → conflicts (idle a) i w ≡ false
idle_clear a i w = rw (has-none i) (and-false w)

-- where no desk is found it is granted
pub locked_free : (desks : List Desk) (guarded : Items) (d i : ℕ) (w : Bool) (granted : Answer)
    → 16 ≤ holder desks guarded d i w → granted ≡ locked desks guarded d i w granted
locked_free desks guarded d i w granted h =
    let none : holder desks guarded d i w ≡ 16 = le_antisymm (eldest_le (in_the_way desks guarded d i w) (λ n. (desk_in desks n).age.0) 16 (le_refl 16)) h in
    rw none

-- what holds at each way out holds of the answer
module _ (P : Answer → Type 0) where
  module _ (desks : List Desk) (guarded : Items) (d i : ℕ) (w : Bool) where
    -- the oldest holder, 16 where there is none
    abbrev found : ℕ
    found = holder desks guarded d i w

    abbrev older : Bool
    older = ltb (desk_in desks d).age.0 (desk_in desks found).age.0

    pub locked_ways :
        (granted : Answer)
        → (eqb found 16 ≡ true → P granted)
        → (eqb found 16 ≡ false → older ≡ true → P (Wait i found))
        → (eqb found 16 ≡ false → older ≡ false → P (Aborted (Yield i found)))
        → P (locked desks guarded d i w granted)
    locked_ways granted free waits yields = by_cond P (eqb found 16) free (λ held. by_cond P older (waits held) (yields held))
