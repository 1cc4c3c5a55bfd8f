-- Of n places, numbered from 0 on, the one with a given number.
use Rattle.std.specs.Prelude.{ℕ, cond, ltb, Result, Ok, Err}
use Rattle.places.specs.declared.NoSuchPlace.{NoSuchPlace}

-- the place, if there is one
abbrev pub place_in : ℕ → ℕ → Result ℕ NoSuchPlace
place_in n number = cond (ltb number n) (Ok number) (Err (record {}))
