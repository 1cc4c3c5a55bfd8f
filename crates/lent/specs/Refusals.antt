-- Outline, "What comes back": refusals 10 to 14 belong to a whole run.
use Rattle.std.specs.Prelude.{ℕ, ◌*◌, ◌/◌, ◌%◌, not, List, [], ◌∷◌, eqb, ltb, ℤ, pos, neg_ℤ, Option, Result, Ok, Err}
use Rattle.wire.specs.Checks.{Check, ◌fails◌, first_failing}
use Rattle.table.specs.Table.{wrong}
use Rattle.lent.specs.declared.RunRefusal.{RunRefusal}
use Rattle.lent.specs.declared.RunRefusal.TheVariants.{WrongTable, RequestsLength, AnswersLength, ValuesLength, TooManyRequests}

abbrev pub number_of : RunRefusal → ℕ
number_of WrongTable = 10
number_of RequestsLength = 11
number_of AnswersLength = 12
number_of ValuesLength = 13
number_of TooManyRequests = 14

-- in their order, by the table and the lengths of the requests and of the two buffers
abbrev pub run_checks : List ℕ → ℕ → ℕ → ℕ → List (Check RunRefusal)
run_checks t q a v =
    wrong t fails WrongTable
    ∷ not (eqb (q % 8) 0) fails RequestsLength
    ∷ ltb 4096 (q / 8) fails TooManyRequests
    ∷ ltb a (12 * (q / 8)) fails AnswersLength
    ∷ ltb v 256 fails ValuesLength
    ∷ []

unfoldable pub refusal : List ℕ → ℕ → ℕ → ℕ → Option RunRefusal
refusal t q a v = first_failing (run_checks t q a v)

-- the count of a run's answers, or minus the number of its refusal
abbrev pub as_number : Result ℕ RunRefusal → ℤ
as_number (Ok n) = pos n
as_number (Err r) = neg_ℤ (pos (number_of r))
