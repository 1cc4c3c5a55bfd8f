-- A desk that is made to yield over and over: why an aborted desk keeps its age. The same requests under both rules, computed.
use Rattle.std.specs.Prelude.{ℕ, ◌+◌, ◌*◌, ◌≡◌, refl, cond, List, [], ◌∷◌, ◌++◌, map}
use Rattle.runs.specs.Runs.{answers}
use Rattle.counters.specs.Counters.{no_age}
use Rattle.wire.specs.Answers.{fields}
use Rattle.desks.specs.Desks.{idle, is_open}
use Rattle.desks.specs.declared.Desk.{Desk}
use Rattle.board.specs.Rules.{with_age, with_desks, put, next, reply}
use Rattle.board.specs.Opening.{opening}
use Rattle.board.specs.Example.{table, computing, begin, write, end}
use Rattle.board.specs.declared.Board.{Board}

-- desk 1 begins first and writes item 1; desk 0 begins and asks for it too; desk 1 ends; desk 0 asks again, and ends
abbrev round : List (List ℕ)
round = begin 1 ∷ write 1 1 1 ∷ begin 0 ∷ write 0 1 1 ∷ end 1 ∷ write 0 1 1 ∷ end 0 ∷ []

-- ---- the other rule: each begin gets a new age, since no idle desk keeps one

abbrev forgets : Desk → Desk
forgets k = cond (is_open k) k (idle no_age)

abbrev forgetting : Board → Board
forgetting b = with_desks b (map forgets b.desks)

-- round n, the first being round 0: desk 0 gets a younger age than desk 1, yields to it, and is no longer there when the item is free
abbrev lost : ℕ → List (List ℕ)
lost n =
    (1 ∷ 0 ∷ 0 ∷ (2 * n + 1) ∷ n ∷ [])
    ∷ (3 ∷ 1 ∷ 0 ∷ 0 ∷ 0 ∷ [])
    ∷ (1 ∷ 0 ∷ 0 ∷ (2 * n + 2) ∷ n ∷ [])
    ∷ (7 ∷ 1 ∷ 3 ∷ 1 ∷ 0 ∷ [])
    ∷ (5 ∷ 0 ∷ 0 ∷ (n + 1) ∷ 0 ∷ [])
    ∷ (0 ∷ 0 ∷ 5 ∷ 0 ∷ 0 ∷ [])
    ∷ (0 ∷ 0 ∷ 5 ∷ 0 ∷ 0 ∷ [])
    ∷ []

-- so it goes each time: ages 2, 4, 6, 8, and it never gets through
pub never_served :
    map fields (answers (λ b q. forgetting (next b q)) reply (opening table) (round ++ round ++ round ++ round))
    ≡ lost 0 ++ lost 1 ++ lost 2 ++ lost 3
unfolding computing
never_served = refl

-- ---- the outline's rule: an aborted desk keeps its age

-- the second time desk 0 has its age 2, and desk 1 a younger one, 3: desk 0 waits, and then its write is stored and committed
abbrev served : List (List ℕ)
served =
    (1 ∷ 0 ∷ 0 ∷ 3 ∷ 1 ∷ [])
    ∷ (3 ∷ 1 ∷ 0 ∷ 0 ∷ 0 ∷ [])
    ∷ (1 ∷ 0 ∷ 0 ∷ 2 ∷ 1 ∷ [])
    ∷ (4 ∷ 1 ∷ 0 ∷ 1 ∷ 0 ∷ [])
    ∷ (5 ∷ 0 ∷ 0 ∷ 2 ∷ 0 ∷ [])
    ∷ (3 ∷ 1 ∷ 0 ∷ 0 ∷ 0 ∷ [])
    ∷ (5 ∷ 0 ∷ 0 ∷ 3 ∷ 0 ∷ [])
    ∷ []

pub served_at_last : map fields (answers next reply (opening table) (round ++ round)) ≡ lost 0 ++ served
unfolding computing
served_at_last = refl

-- ---- after age 2,000 was given: a desk that keeps age 7 still begins, and one that keeps none is refused 9

abbrev late : Board
late = put (with_age (opening table) (record { 0 = 2000 })) 0 (idle (record { 0 = 7 }))

pub late_begins : map fields (answers next reply late (begin 0 ∷ begin 1 ∷ [])) ≡ (1 ∷ 0 ∷ 0 ∷ 7 ∷ 0 ∷ []) ∷ (0 ∷ 0 ∷ 9 ∷ 0 ∷ 0 ∷ []) ∷ []
unfolding computing
late_begins = refl
