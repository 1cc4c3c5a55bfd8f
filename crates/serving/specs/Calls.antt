-- The same run by one call for each request: what hub_open and hub_step promise, and what hub_run promises, are one thing.
use Rattle.std.specs.Prelude.{ℕ, ◌*◌, ◌≤◌, ◌≡◌, false, List, ◌++◌, pos, length, drop}
use Rattle.runs.specs.Runs.{after}
use Rattle.words.specs.Bytes.{Bytes}
use Rattle.table.specs.Table.{wrong}
use Rattle.board.specs.Reached.{Eights, Reached}
use Rattle.board.specs.declared.Board.{Board}
use Rattle.pieces.specs.Pieces.{in_one, four_each}
use Rattle.lent.specs.Served.{written}
use Rattle.serving.specs.Run.{told, outcome, opened_by, stepped_by}

-- the board that a call of hub_step leaves, and the answer that it writes
abbrev pub left : Board → List ℕ → Board
left b q = (stepped_by b q).board

abbrev pub answer : Board → List ℕ → List ℕ
answer b q = (stepped_by b q).bytes

-- a right table opens a board that hub_step may be given, whatever stood there; a wrong one takes none away; and hub_step leaves such a board
abbrev pub OpenReaches : Type 0
OpenReaches = (b : Board) (t : List ℕ) → Bytes 1024 t → wrong t ≡ false → Reached (opened_by b t).board

abbrev pub OpenKeeps : Type 0
OpenKeeps = (b : Board) (t : List ℕ) → Bytes (length t) t → Reached b → Reached (opened_by b t).board

abbrev pub StepKeeps : Type 0
StepKeeps = (b : Board) (q : List ℕ) → Bytes 8 q → Reached b → Reached (stepped_by b q).board

-- for every right table and requests of 8 bytes up to the limits, the calls write the bytes of the run
abbrev pub CallsAreRun : Type 0
CallsAreRun =
    (b : Board) (t : List ℕ) → wrong t ≡ false → (qs : List (List ℕ)) → Eights qs → length qs ≤ 4096
    → (a v : List ℕ) → 12 * length qs ≤ length a → 256 ≤ length v
    → let o = (opened_by b t).board in
    outcome t (in_one qs) a v
    ≡ told (pos (length qs)) (written left answer o qs ++ drop (12 * length qs) a) (four_each (after left o qs).values ++ drop 256 v)
