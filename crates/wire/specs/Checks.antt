-- Checks in their order: each has a test that tells its failing, and the refusal that it then gives.
use Rattle.std.specs.Prelude.{Bool, cond, List, [], ◌∷◌, Option, Some, None}

infix 70 ◌fails◌
pub data Check (R : Type 0) : Type 0 where
  ◌fails◌ : Bool → R → Check R

-- the refusal of the first check that fails, if one does
abbrev pub first_failing : {R : Type 0} → List (Check R) → Option R
first_failing [] = None
first_failing ((t fails r) ∷ cs) = cond t (Some r) (first_failing cs)

-- what a refusal makes, if there is one, else the other
abbrev pub unless : {R A : Type 0} → Option R → (R → A) → A → A
unless None refused passed = passed
unless (Some r) refused passed = refused r
