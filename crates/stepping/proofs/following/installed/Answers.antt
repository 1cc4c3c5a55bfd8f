-- At the end the loop's invariant is what is promised.
use mathlib.Core.Path.{◌≡◌}
use native.Mathlib.Omega.{arith}
use Rattle.stepping.proofs.following.installed.Goals as goal

pub returns : goal.returns
returns c = let all : c.loop-i.i ≡ 64 = omega arith in (rw all at c.loop-i.invariant)
