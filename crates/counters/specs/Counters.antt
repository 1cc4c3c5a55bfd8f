-- Outline, "Records of a desk and of the board": ages and transaction numbers are two counters, never compared with each other.
-- Both begin at 0 and the first one given is 1.
use Rattle.std.specs.Prelude.{ℕ, ◌+◌}
use Rattle.counters.specs.declared.Age.{Age}
use Rattle.counters.specs.declared.Number.{Number}

abbrev pub no_age : Age
no_age = record { 0 = 0 }

abbrev pub no_number : Number
no_number = record { 0 = 0 }

-- the next one of each
abbrev pub next_age : Age → Age
next_age a = record { 0 = a.0 + 1 }

abbrev pub next_number : Number → Number
next_number n = record { 0 = n.0 + 1 }

-- the number given after n and count others
abbrev pub later_number : Number → ℕ → Number
later_number n count = record { 0 = n.0 + 1 + count }
