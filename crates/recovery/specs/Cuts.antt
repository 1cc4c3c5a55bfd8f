-- Cut the journal after any byte: the restart gives the values after the last commit whose closing record is whole, and how many commits that is.
use Rattle.std.specs.Prelude.{ℕ, ◌≡◌, false, cond, List, [], ◌∷◌, leb, pos, take}
use Rattle.runs.specs.Runs.{after}
use Rattle.words.specs.Bytes.{Bytes}
use Rattle.table.specs.Table.{wrong}
use Rattle.board.specs.Opening.{opening}
use Rattle.board.specs.declared.Board.{Board}
use Rattle.journal.specs.Journal.{Ledger, opened, next}
use Rattle.restart.specs.Restart.{with_values, told, restarted}
use Rattle.restart.specs.Restarts.{table_after, fresh_with}

-- of a run, the requests before the first one whose records are not whole within the first `cut` bytes
abbrev pub within : ℕ → Ledger → List (List ℕ) → List (List ℕ)
within cut l [] = []
within cut l (q ∷ qs) = cond (leb (next l q).kept.used cut) (q ∷ within cut (next l q) qs) []

-- the board that they leave: its last number is that of the last commit whose closing record is whole, and its values are those after it
abbrev pub board_within : ℕ → Ledger → List (List ℕ) → Board
board_within cut l qs = (after next l (within cut l qs)).kept.board

-- after any run, for every cut
abbrev pub Cuts : Type 0
Cuts =
    (table : List ℕ) → Bytes 1024 table → wrong table ≡ false → (journal : List ℕ) (requests : List (List ℕ)) (cut : ℕ)
    → let start = opened table journal in
    let last = board_within cut start requests in
    restarted table (take cut (after next start requests).journal) ≡ told (pos last.number.0) (with_values table last.values)

-- the board is then a fresh opening of the table with these values; that the table is right again says RestartedRight of the crate restart,
-- so the demands, which are made of every right table, hold of what follows
abbrev pub Resumes : Type 0
Resumes =
    (table : List ℕ) → Bytes 1024 table → wrong table ≡ false → (journal : List ℕ) (requests : List (List ℕ)) (cut : ℕ)
    → let start = opened table journal in
    opening (table_after table (take cut (after next start requests).journal)) ≡ fresh_with table (board_within cut start requests).values

-- bytes past the first 65,536 are not read
abbrev pub ReadsNoFurther : Type 0
ReadsNoFurther = (table journal : List ℕ) → restarted table (take 65536 journal) ≡ restarted table journal
