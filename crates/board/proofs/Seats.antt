-- The sixteen desks as a whole: what holds of each, of each two, and how many have an age. One of them may change.
use mathlib.Core.Path.{◌≡◌, ◌∙◌}
use mathlib.Core.Logic.{◌≢◌}
use mathlib.Core.Bool.{cond}
use mathlib.Core.List.{List, [], ◌∷◌}
use Prim.Native.Nat.{ℕ, zero, suc, ◌+◌, ◌<◌, ◌≤◌, zero-le}
use native.Mathlib.Nat.{le_trans}
use native.Mathlib.Omega.{arith}
use lib.ListN.{set, length, length-set}
use lib.Seq.{get_or-set_same, get_or-set_other}
use Rattle.items.specs.declared.Items.{Items}
use Rattle.items.proofs.Tests.{by_equal}
use Rattle.desks.specs.Desks.{beyond, desk_in, ageless}
use Rattle.desks.specs.declared.Desk.{Desk}
use Rattle.board.proofs.Desks.{DeskSound, Excludes, Locks, locks_set}
use Rattle.desks.proofs.Ages.{AgesApart}

-- ---- how many desks have an age, open or idle

abbrev pub tally : Desk → ℕ
tally k = cond (ageless k) 0 1

abbrev pub aged_in : List Desk → ℕ
aged_in [] = 0
aged_in (k ∷ ks) = tally k + aged_in ks

aged_in_set : (ks : List Desk) (d : ℕ) (k : Desk) → d < length ks → aged_in (set ks d k) + tally (desk_in ks d) ≡ aged_in ks + tally k
aged_in_set [] d k h = absurd (omega arith)
aged_in_set (m ∷ ks) zero k h = omega arith
aged_in_set (m ∷ ks) (suc d) k h = let e = aged_in_set ks d k (omega arith) in omega arith

pub aged_in_some : (ks : List Desk) (d : ℕ) → tally (desk_in ks d) ≤ aged_in ks
aged_in_some [] d = zero-le
aged_in_some (m ∷ ks) zero = omega arith
aged_in_some (m ∷ ks) (suc d) = let h = aged_in_some ks d in omega arith

-- ---- the desks

-- at this last number and last age
pub record DesksSound (guarded : Items) (number age : ℕ) (desks : List Desk) : Type 0 where
  pub sixteen : length desks ≡ 16
  pub each : (d : ℕ) → d < 16 → DeskSound guarded number (desk_in desks d)
  pub locks : Locks guarded desks
  pub counted : number + aged_in desks ≤ age
  pub ages : AgesApart age desks

-- one desk's record changes, and the counters may
pub seated :
    {guarded : Items} {number number' age age' : ℕ} {desks : List Desk} → DesksSound guarded number age desks
    → (d : ℕ) → d < 16 → (k : Desk) → DeskSound guarded number' k
    → ((e : ℕ) → e < 16 → e ≢ d → Excludes guarded k (desk_in desks e) × Excludes guarded (desk_in desks e) k)
    → number ≤ number'
    → number' + tally k + age ≤ number + tally (desk_in desks d) + age'
    → AgesApart age' (set desks d k)
    → DesksSound guarded number' age' (set desks d k)
seated {guarded} {number} {number'} {desks} ds d hd k ok apart later room ages =
    record {
      sixteen = length-set desks d k ∙ ds.sixteen;
      each =
          λ e he.
          by_equal e d (λ q. rw (q, get_or-set_same desks d k beyond long) ok)
          (λ n. rw (get_or-set_other desks d e k beyond n) (kept e (ds.each e he)));
      locks = locks_set guarded desks ds.locks d k long apart;
      counted = let e = aged_in_set desks d k long in omega (arith, ds.counted);
      ages = ages;
    }
  where
    long : d < length desks
    long = rw ds.sixteen hd

    kept : (e : ℕ) → DeskSound guarded number (desk_in desks e) → DeskSound guarded number' (desk_in desks e)
    kept e old =
        record
        { started = le_trans old.started later; room = old.room; unwritten = old.unwritten; unread = old.unread; closed = old.closed; aged = old.aged }
