-- Outline, "On either side of a line": P1 to P13, the easy errors and kept ages, as one table of inputs and results; and the worked example.
-- Each row: requests to the example's board, and what the last of them is answered: code, item, reason, first and second number.
use Rattle.std.specs.Prelude.{◌≡◌, refl, List, [], ◌∷◌, ◌++◌, map, ℕ, zero, suc, set}
use Rattle.runs.specs.Runs.{after, answers}
use Rattle.wire.specs.Answers.{fields}
use Rattle.desks.specs.Desks.{idle}
use Rattle.board.specs.Rules.{desk_at, next, reply}
use Rattle.board.specs.Opening.{opening}
use Rattle.board.specs.Example.{table, computing, begin, read, write, end, abandon}

pub record Case : Type 0 where
  pub requests : List (List ℕ)
  pub answered : List ℕ

infix 10 ◌gives◌
abbrev ◌gives◌ : List (List ℕ) → List ℕ → Case
qs gives a = record { requests = qs; answered = a }

-- desk 1 commits a write of item 5, n times
abbrev commits : ℕ → List (List ℕ)
commits zero = []
commits (suc n) = begin 1 ∷ write 1 5 7 ∷ end 1 ∷ commits n

abbrev pub cases : List Case
cases =
    -- P1 to P4: both ends of the range are allowed
    (begin 0 ∷ write 0 0 250 ∷ [] gives 3 ∷ 0 ∷ 0 ∷ 0 ∷ 0 ∷ [])
    ∷ (begin 0 ∷ write 0 0 251 ∷ [] gives 0 ∷ 0 ∷ 8 ∷ 0 ∷ 0 ∷ [])
    ∷ (begin 0 ∷ write 0 0 30 ∷ [] gives 3 ∷ 0 ∷ 0 ∷ 0 ∷ 0 ∷ [])
    ∷ (begin 0 ∷ write 0 0 29 ∷ [] gives 0 ∷ 0 ∷ 7 ∷ 0 ∷ 0 ∷ [])
    -- P5 to P7: 16 commits after a start are looked at, 17 are too many, and with nothing open read none is
    ∷ (begin 0 ∷ read 0 0 ∷ commits 16 ++ (end 0 ∷ []) gives 5 ∷ 0 ∷ 0 ∷ 17 ∷ 0 ∷ [])
    ∷ (begin 0 ∷ read 0 0 ∷ commits 17 ++ (end 0 ∷ []) gives 7 ∷ 0 ∷ 2 ∷ 0 ∷ 0 ∷ [])
    ∷ (begin 0 ∷ read 0 1 ∷ commits 17 ++ (end 0 ∷ []) gives 5 ∷ 0 ∷ 0 ∷ 18 ∷ 0 ∷ [])
    -- P8 to P11: the older waits for desk 1, the younger yields to it, also to the older of two, desk 2; the sole sharer may write
    ∷ (begin 0 ∷ begin 1 ∷ read 1 1 ∷ write 0 1 1 ∷ [] gives 4 ∷ 1 ∷ 0 ∷ 1 ∷ 0 ∷ [])
    ∷ (begin 1 ∷ begin 0 ∷ read 1 1 ∷ write 0 1 1 ∷ [] gives 7 ∷ 1 ∷ 3 ∷ 1 ∷ 0 ∷ [])
    ∷ (begin 2 ∷ begin 0 ∷ begin 1 ∷ read 2 1 ∷ read 1 1 ∷ write 0 1 1 ∷ [] gives 7 ∷ 1 ∷ 3 ∷ 2 ∷ 0 ∷ [])
    ∷ (begin 0 ∷ read 0 1 ∷ write 0 1 1 ∷ [] gives 3 ∷ 1 ∷ 0 ∷ 0 ∷ 0 ∷ [])
    -- P12, P13: a copy is read back by its own desk, and by no other
    ∷ (begin 0 ∷ write 0 0 115 ∷ read 0 0 ∷ [] gives 2 ∷ 0 ∷ 0 ∷ 115 ∷ 0 ∷ [])
    ∷ (begin 0 ∷ begin 1 ∷ write 0 0 115 ∷ read 1 0 ∷ [] gives 2 ∷ 0 ∷ 0 ∷ 140 ∷ 0 ∷ [])
    -- of two younger holders the older one is waited for, desk 2
    ∷ (begin 0 ∷ begin 2 ∷ begin 1 ∷ read 1 1 ∷ read 2 1 ∷ write 0 1 1 ∷ [] gives 4 ∷ 1 ∷ 0 ∷ 2 ∷ 0 ∷ [])
    -- easy errors: a commit between the last read and the end is seen, also one that wrote without reading
    ∷ (begin 0 ∷ begin 1 ∷ read 0 0 ∷ write 1 0 115 ∷ end 1 ∷ end 0 ∷ [] gives 7 ∷ 0 ∷ 1 ∷ 1 ∷ 0 ∷ [])
    -- a guarded value that was read under its lock is not validated against a commit before the lock
    ∷ (begin 0 ∷ begin 1 ∷ write 1 1 1 ∷ end 1 ∷ read 0 1 ∷ end 0 ∷ [] gives 5 ∷ 0 ∷ 0 ∷ 2 ∷ 0 ∷ [])
    -- the copies of an aborted transaction are not there for the next one
    ∷ (begin 1 ∷ begin 0 ∷ write 0 0 115 ∷ write 1 1 1 ∷ read 0 1 ∷ begin 0 ∷ read 0 0 ∷ [] gives 2 ∷ 0 ∷ 0 ∷ 140 ∷ 0 ∷ [])
    -- after an abort of each reason the desk begins with the age that it had: made to yield, overwritten, too old
    ∷ (begin 1 ∷ begin 0 ∷ write 1 1 1 ∷ read 0 1 ∷ begin 0 ∷ [] gives 1 ∷ 0 ∷ 0 ∷ 2 ∷ 0 ∷ [])
    ∷ (begin 0 ∷ begin 1 ∷ read 0 0 ∷ write 1 0 115 ∷ end 1 ∷ end 0 ∷ begin 0 ∷ [] gives 1 ∷ 0 ∷ 0 ∷ 1 ∷ 1 ∷ [])
    ∷ (begin 0 ∷ read 0 0 ∷ commits 17 ++ (end 0 ∷ begin 0 ∷ []) gives 1 ∷ 0 ∷ 0 ∷ 1 ∷ 17 ∷ [])
    -- after a commit or an abandon, or at another desk, with a new one
    ∷ (begin 0 ∷ end 0 ∷ begin 0 ∷ [] gives 1 ∷ 0 ∷ 0 ∷ 2 ∷ 1 ∷ [])
    ∷ (begin 0 ∷ abandon 0 ∷ begin 0 ∷ [] gives 1 ∷ 0 ∷ 0 ∷ 2 ∷ 0 ∷ [])
    ∷ (begin 1 ∷ begin 0 ∷ write 1 1 1 ∷ read 0 1 ∷ begin 2 ∷ [] gives 1 ∷ 0 ∷ 0 ∷ 3 ∷ 0 ∷ [])
    ∷ []

-- what the last of some requests is answered
abbrev last : List (List ℕ) → List ℕ
last [] = []
last (x ∷ []) = x
last (x ∷ y ∷ ys) = last (y ∷ ys)

abbrev shown : List (List ℕ) → List (List ℕ)
shown qs = map fields (answers next reply (opening table) qs)

pub as_given : map (λ c. last (shown c.requests)) cases ≡ map (λ c. c.answered) cases
unfolding computing
as_given = refl

-- and an aborted transaction leaves its desk all zero but for its age, 2
pub aborted-idle :
    desk_at (after next (opening table) (begin 1 ∷ begin 0 ∷ write 0 0 115 ∷ write 1 1 1 ∷ read 0 1 ∷ [])) 0 ≡ idle (record { 0 = 2 })
unfolding computing
aborted-idle = refl

-- ---- the worked example

abbrev worked : List (List ℕ)
worked = begin 0 ∷ begin 1 ∷ read 0 0 ∷ write 1 0 115 ∷ end 1 ∷ write 0 1 1 ∷ end 0 ∷ write 1 0 1150 ∷ begin 1 ∷ write 1 0 1150 ∷ []

pub worked-answers :
    shown worked
    ≡ (1 ∷ 0 ∷ 0 ∷ 1 ∷ 0 ∷ [])
    ∷ (1 ∷ 0 ∷ 0 ∷ 2 ∷ 0 ∷ [])
    ∷ (2 ∷ 0 ∷ 0 ∷ 140 ∷ 0 ∷ [])
    ∷ (3 ∷ 0 ∷ 0 ∷ 0 ∷ 0 ∷ [])
    ∷ (5 ∷ 0 ∷ 0 ∷ 1 ∷ 0 ∷ [])
    ∷ (3 ∷ 1 ∷ 0 ∷ 0 ∷ 0 ∷ [])
    ∷ (7 ∷ 0 ∷ 1 ∷ 1 ∷ 0 ∷ [])
    ∷ (0 ∷ 0 ∷ 5 ∷ 0 ∷ 0 ∷ [])
    ∷ (1 ∷ 0 ∷ 0 ∷ 3 ∷ 1 ∷ [])
    ∷ (0 ∷ 0 ∷ 8 ∷ 0 ∷ 0 ∷ [])
    ∷ []
unfolding computing
worked-answers = refl

-- item 0 ends at 115, and every other as it was opened
pub worked_values : (after next (opening table) worked).values ≡ set (opening table).values 0 115
unfolding computing
worked_values = refl

-- no requests: no answers, and the values as opened
pub none_asked : (shown [] ≡ []) × ((after next (opening table) []).values ≡ (opening table).values)
none_asked = (refl, refl)
