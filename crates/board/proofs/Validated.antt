-- Validation as the code has it: the search for the first stale number, and the end's ways out.
use mathlib.Core.Path.{◌≡◌}
use mathlib.Core.Bool.{true, false}
use mathlib.Core.List.{List}
use native.Mathlib.Omega.{arith}
use Rattle.std.specs.Prelude.{Option, Some, None}
use Prim.Native.Nat.{ℕ, ◌+◌, ◌-◌, ◌≤◌, ◌<◌}
use borrow.Author.Tests.{le-ltb, lt-ltb}
use lib.Dec.{ltb}
use Rattle.items.specs.First.{first}
use Rattle.items.specs.Items.{empty, common, lowest}
use Rattle.items.specs.declared.Items.{Items}
use Rattle.items.proofs.Tests.{by_cond}
use Rattle.counters.specs.Counters.{next_number, later_number}
use Rattle.counters.specs.declared.Number.{Number}
use Rattle.wire.specs.Checks.{unless}
use Rattle.wire.specs.declared.Reason.{Reason}
use Rattle.wire.specs.declared.Reason.TheVariants.{Overwritten, TooOld}
use Rattle.wire.specs.declared.Answer.{Answer}
use Rattle.wire.specs.declared.Answer.TheVariants.{Committed, Aborted}
use Rattle.board.specs.Rules.{write_set, shares, first_stale, overwritten, ended}
use Rattle.desks.specs.declared.Desk.{Desk}

module _ (sets : List Items) (read : Items) (start last : Number) where
  -- the number after k others above the start
  abbrev after_others : ℕ → ℕ
  after_others k = start.0 + 1 + k

  -- none above the start shares an item
  pub none_stale : first (last.0 - start.0) (λ k. shares sets read (after_others k)) ≡ last.0 - start.0 → start.0 ≤ last.0
      → None ≡ overwritten sets read start.0 last.0
  unfolding first_stale
  none_stale e h = rw (e, lt-ltb last.0 (start.0 + 1 + (last.0 - start.0)) (omega arith))

  -- the one after k others is the first that does, and i the lowest item that they share
  pub is_stale : (k : ℕ) → k < last.0 - start.0 → first (last.0 - start.0) (λ j. shares sets read (after_others j)) ≡ k
      → (i : ℕ) → lowest (common (write_set sets (after_others k)) read) ≡ i
      → Some (Overwritten i (later_number start k)) ≡ overwritten sets read start.0 last.0
  unfolding first_stale
  is_stale k h e i l = rw (e, le-ltb last.0 (start.0 + 1 + k) (omega arith), l)

-- what holds at each way out holds of the answer
module _ (P : Answer → Type 0) where
  module _ (sets : List Items) (n : Number) (k : Desk) where
    -- the first number that shares an item with what was read, the one after the last where there is none
    abbrev stale : ℕ
    stale = first_stale sets k.read k.start.0 n.0

    pub ended_ways :
        (empty k.read ≡ true → P (Committed (next_number n)))
        → P (Aborted (TooOld k.start))
        → (ltb 16 (n.0 - k.start.0) ≡ false → ltb n.0 stale ≡ true → P (Committed (next_number n)))
        → P (Aborted (Overwritten (lowest (common (write_set sets stale) k.read)) (record { 0 = stale })))
        → P (ended sets n k)
    ended_ways unread old fresh lost_read =
        by_cond P (empty k.read) unread
        (λ some. by_cond P (ltb 16 (n.0 - k.start.0)) (λ late. old)
        (λ recent. by_cond (λ (o : Option Reason). P (unless o Aborted (Committed (next_number n)))) (ltb n.0 stale) (fresh recent) (λ lost. lost_read)))
