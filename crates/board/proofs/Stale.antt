-- The law of `first_stale` that validation rests on: no number above the start and below it has a write set that shares an item.
use mathlib.Core.Path.{◌≡◌}
use mathlib.Core.Bool.{Bool, false}
use mathlib.Core.List.{List}
use Prim.Native.Nat.{ℕ, ◌+◌, ◌-◌, ◌<◌}
use native.Mathlib.Omega.{arith}
use Rattle.items.specs.declared.Items.{Items}
use Rattle.items.proofs.First.{first_before}
use Rattle.board.specs.Rules.{shares, first_stale}

module _ (sets : List Items) (read : Items) (start last : ℕ) where
  -- the number after k others above the start
  abbrev test : ℕ → Bool
  test k = shares sets read (start + 1 + k)

  pub stale_before : (m : ℕ) → start < m → m < first_stale sets read start last → shares sets read m ≡ false
  unfolding first_stale
  stale_before m l h = rw place at (first_before (last - start) test (m - (start + 1)) (omega arith))
    where
      place : start + 1 + (m - (start + 1)) ≡ m
      place = omega arith
