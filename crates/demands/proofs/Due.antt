-- Which answers a request gets: only a begin or an end reaches the counters, and a value or a store is of the item named.
use mathlib.Core.Path.{◌≡◌, refl}
use mathlib.Core.Bool.{true, false}
use Prim.Native.Nat.{ℕ}
use borrow.Author.Tests.{eq-eqb}
use lib.Dec.{eqb}
use Rattle.wire.proofs.Checks.{unless_ways}
use Rattle.std.specs.Prelude.{Ok}
use Rattle.items.proofs.Tests.{by_cond}
use Rattle.wire.specs.declared.Request.{Request}
use Rattle.wire.specs.declared.Request.TheVariants.{Begin, Read, Write, End, Abandon}
use Rattle.wire.specs.declared.Answer.{Answer}
use Rattle.wire.specs.declared.Answer.TheVariants.{Refused, Opened, Value, Stored, Wait, Committed, Abandoned, Aborted}
use Rattle.board.specs.Rules.{seen, desk_at, refusal, granted, answered, answer}
use Rattle.demands.specs.Demands.{bound, names}
use Rattle.board.specs.declared.Board.{Board}
use Rattle.desks.proofs.Locking.{locked_ways}
use Rattle.board.proofs.Validated.{ended_ways}

abbrev pub Due : Request → Answer → Type 0
Due r (Refused n) = Unit {0}
Due r (Opened a s) = bound r ≡ true
Due r (Value i v) = names r i ≡ true
Due r (Stored i) = names r i ≡ true
Due r (Wait i e) = Unit {0}
Due r (Committed n) = bound r ≡ true
Due r Abandoned = Unit {0}
Due r (Aborted w) = Unit {0}

module _ (b : Board) (d : ℕ) where
  granted_due : (r : Request) → Due r (granted b d r)
  granted_due Begin = refl
  granted_due (Read i) =
      locked_ways (Due (Read i)) b.desks b.guarded d i false (Value i (seen b.values (desk_at b d) i)) (λ free. eq-eqb i i refl) (λ held older. tt) (λ held younger. tt)
  granted_due (Write i v) =
      locked_ways (Due (Write i v)) b.desks b.guarded d i true (Stored i) (λ free. eq-eqb i i refl) (λ held older. tt) (λ held younger. tt)
  granted_due End = ended_ways (Due End) b.sets b.number (desk_at b d) (λ unread. refl) tt (λ recent fresh. refl) tt
  granted_due Abandon = tt

  pub due : (r : Request) → Due r (answer b (Ok (d, r)))
  unfolding answered answer
  due r = unless_ways (Due r) (refusal b d r) (λ n refused. tt) (λ passed. granted_due r)
