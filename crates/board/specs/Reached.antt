-- What the inner call may suppose of its board: only what an opening and such calls can have left.
use Rattle.std.specs.Prelude.{ℕ, ◌<◌, ◌≤◌, ◌≡◌, true, false, List, [], ◌∷◌}
use Rattle.runs.specs.Runs.{after}
use Rattle.words.specs.Bytes.{Bytes}
use Rattle.table.specs.Table.{wrong}
use Rattle.desks.specs.Desks.{is_open}
use Rattle.board.specs.Rules.{desk_at, next}
use Rattle.board.specs.Opening.{opening}
use Rattle.board.specs.declared.Board.{Board}

-- each is 8 bytes
abbrev pub Eights : List (List ℕ) → Type 0
Eights [] = Unit {0}
Eights (q ∷ qs) = Bytes 8 q × Eights qs

-- b is what a right opening table and some requests of 8 bytes leave
pub record Reached (b : Board) : Type 0 where
  pub table : List ℕ
  pub bytes : Bytes 1024 table
  pub right : wrong table ≡ false
  pub requests : List (List ℕ)
  pub eights : Eights requests
  pub left : after next (opening table) requests ≡ b

-- what follows of its counters (Sound of proofs/), and is all that the code leans on: no transaction begins in the future,
-- while one is open the last age is above the last number, and no age is above 2,000
pub record Counted (b : Board) : Type 0 where
  pub started : (d : ℕ) → d < 16 → (desk_at b d).start.0 ≤ b.number.0
  pub ahead : (d : ℕ) → d < 16 → is_open (desk_at b d) ≡ true → b.number.0 < b.age.0
  pub limit : b.age.0 ≤ 2000
