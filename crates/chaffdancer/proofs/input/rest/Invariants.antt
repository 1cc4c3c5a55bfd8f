-- The loop's invariant: the sum so far is below 8.
use Rattle.std.proofs.Common.{◌<◌}
use Rattle.chaffdancer.proofs.input.rest.Given as goal

abbrev pub invariant-loop : goal.invariant-loop
invariant-loop g l = l.sum < 8
