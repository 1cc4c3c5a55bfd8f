-- The loop's invariant: of the other desks below n, the eldest that conflicts is found.
use Rattle.desks.specs.Desks.{in_the_way, desk_in}
use Rattle.locking.proofs.Search.{found_below}
use mathlib.Core.Path.{◌≡◌}
use Rattle.locking.proofs.Claim.holder.Given as goal

abbrev pub invariant-loop-n : goal.invariant-loop-n
invariant-loop-n l = l.oldest ≡ found_below (in_the_way l.desks l.guarded l.self.seat l.self.item l.self.writes) (λ n. (desk_in l.desks n).age.0) l.n
