-- A run's checks: what is so where none fails, and what the check of them gives.
use mathlib.Core.Path.{◌≡◌, refl}
use mathlib.Core.Bool.{false}
use mathlib.Core.List.{List}
use Prim.Native.Nat.{ℕ, ◌*◌, ◌/◌, ◌%◌, ◌≤◌}
use borrow.Author.Tests.{le-ltb, ltb-false}
use Rattle.std.specs.Prelude.{Option, Some, None, Ok, Err}
use Rattle.table.specs.Table.{wrong}
use Rattle.wire.specs.Checks.{unless}
use Rattle.lent.specs.Refusals.{run_checks, refusal}
use Rattle.lent.specs.declared.RunRefusal.{RunRefusal}
use Rattle.wire.proofs.Checks.{all_passed}

pub refuses_none : (t : List ℕ) (q a v : ℕ) → wrong t ≡ false → q % 8 ≡ 0 → q / 8 ≤ 4096 → 12 * (q / 8) ≤ a → 256 ≤ v → refusal t q a v ≡ None
unfolding refusal
refuses_none t q a v right eights most room wide =
    rw (right, eights, le-ltb 4096 (q / 8) most, le-ltb a (12 * (q / 8)) room, le-ltb v 256 wide)

-- what is so where none fails
pub record Accepted (t : List ℕ) (q a v : ℕ) : Type 0 where
  pub right : wrong t ≡ false
  pub most : q / 8 ≤ 4096
  pub room : 12 * (q / 8) ≤ a
  pub wide : 256 ≤ v

pub accepted : (t : List ℕ) (q a v : ℕ) → refusal t q a v ≡ None → Accepted t q a v
unfolding refusal
accepted t q a v e =
    let p = all_passed (run_checks t q a v) e in
    record {
      right = p.0;
      most = ltb-false 4096 (q / 8) p.1.1.0;
      room = ltb-false a (12 * (q / 8)) p.1.1.1.0;
      wide = ltb-false v 256 p.1.1.1.1.0;
    }

-- what `accept` tells by what it gives
pub accepts : (o : Option RunRefusal) (t : List ℕ) {rows : List ℕ} → Ok rows ≡ unless o Err (Ok t) → (o ≡ None) × (rows ≡ t)
accepts None t e = (refl, cc)
accepts (Some r) t {rows} e = let f : Ok rows ≡ Err r = e in cc

pub refuses : (o : Option RunRefusal) (t : List ℕ) {r : RunRefusal} → Err r ≡ unless o Err (Ok t) → o ≡ Some r
refuses None t {r} e = let f : Err r ≡ Ok t = e in cc
refuses (Some s) t e = cc
