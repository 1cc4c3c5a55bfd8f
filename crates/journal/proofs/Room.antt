-- The room for a commit's records.
use Prim.Native.Nat.{ℕ, ◌≤◌, ◌<◌}
use mathlib.Core.Path.{◌≡◌, refl, ap}
use mathlib.Core.List.{[]}
use borrow.Author.Tests.{ltb-true, ltb-false}
use lib.Dec.{ltb}
use lib.ListN.{length}
use Rattle.items.proofs.Tests.{by_test, by_cond, clash}
use Rattle.counters.specs.declared.Number.{Number}
use Rattle.wire.specs.declared.Answer.{Answer}
use Rattle.wire.specs.declared.Answer.TheVariants.{Refused, Opened, Value, Stored, Wait, Committed, Abandoned, Aborted}
use Rattle.desks.specs.Desks.{copy_of}
use Rattle.desks.specs.declared.Desk.{Desk}
use Rattle.records.specs.Records.{size_of}
use Rattle.records.proofs.Sizes.{entry_length}
use Rattle.journal.specs.Journal.{commits, limited, added}

module _ (need most : ℕ) where
  -- a fact of the answer, and of the refusal where room lacks
  pub limited_ways : (P : Answer → Type 0) (a : Answer) → P a → ((n : Number) → a ≡ Committed n → most < need → P (Refused 15)) → P (limited need most a)
  limited_ways P (Refused n) p q = p
  limited_ways P (Opened a s) p q = p
  limited_ways P (Value i v) p q = p
  limited_ways P (Stored i) p q = p
  limited_ways P (Wait i e) p q = p
  limited_ways P (Committed n) p q = by_cond P (ltb most need) (λ e. q n refl (ltb-true most need e)) (λ e. p)
  limited_ways P Abandoned p q = p
  limited_ways P (Aborted w) p q = p

  -- a commit that stands has room
  pub limited_room : (n : Number) → limited need most (Committed n) ≡ Committed n → need ≤ most
  limited_room n e = by_test (ltb most need) (λ t. clash {t = commits (limited need most (Committed n))} (ap commits e) (rw t refl)) (λ t. ltb-false most need t)

  pub limited_twice : (a : Answer) → limited need most (limited need most a) ≡ limited need most a
  limited_twice (Refused n) = refl
  limited_twice (Opened a s) = refl
  limited_twice (Value i v) = refl
  limited_twice (Stored i) = refl
  limited_twice (Wait i e) = refl
  limited_twice (Committed n) = by_cond (λ (a : Answer). limited need most a ≡ a) (ltb most need) (λ e. refl) (λ e. rw e refl)
  limited_twice Abandoned = refl
  limited_twice (Aborted w) = refl

-- an answer that is no commit stands and adds nothing
pub no_commit : (need most : ℕ) (k : Desk) (a : Answer) → ((n : Number) → a ≡ Committed n → ⊥) → (limited need most a ≡ a) × (added k a ≡ [])
no_commit need most k (Refused n) h = (refl, refl)
no_commit need most k (Opened a s) h = (refl, refl)
no_commit need most k (Value i v) h = (refl, refl)
no_commit need most k (Stored i) h = (refl, refl)
no_commit need most k (Wait i e) h = (refl, refl)
no_commit need most k (Committed n) h = absurd (h n refl)
no_commit need most k Abandoned h = (refl, refl)
no_commit need most k (Aborted w) h = (refl, refl)

-- a commit adds as many bytes as were tested
pub added_size : (k : Desk) (n : Number) → length (added k (Committed n)) ≡ size_of k.written
added_size k n = entry_length k.written (copy_of k) n.0
