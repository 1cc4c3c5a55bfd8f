-- After the last turn all 64 items are looked at.
use Rattle.std.proofs.Common.{◌≡◌, arith}
use Rattle.opening.proofs.guarded.Goals as goal

pub returns : goal.returns
returns c =
    let e : c.loop-i.i ≡ 64 = omega arith in
    rw e at c.loop-i.invariant
