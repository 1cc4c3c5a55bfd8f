-- Outline, "A whole run": the opening table is 64 records of 16 bytes: floor, ceiling and value, kind (0 open, 1 guarded), three zero bytes.
use Rattle.std.specs.Prelude.{ℕ, ◌+◌, ◌*◌, Bool, not, ◌&&◌, cond, List, eqb, leb, length, Result, Ok, Err}
use Rattle.items.specs.First.{every}
use Rattle.words.specs.Bytes.{byte, word_at}
use Rattle.table.specs.declared.WrongTable.{WrongTable}

-- what row i says
abbrev pub floor_at : List ℕ → ℕ → ℕ
floor_at t i = word_at t (16 * i)

abbrev pub ceiling_at : List ℕ → ℕ → ℕ
ceiling_at t i = word_at t (16 * i + 4)

abbrev pub value_at : List ℕ → ℕ → ℕ
value_at t i = word_at t (16 * i + 8)

abbrev pub kind_at : List ℕ → ℕ → ℕ
kind_at t i = byte t (16 * i + 12)

-- floor ≤ value ≤ ceiling, the kind is 0 or 1, and the last three bytes are zero
unfoldable pub row_right : List ℕ → ℕ → Bool
row_right t i =
    leb (floor_at t i) (value_at t i)
    && leb (value_at t i) (ceiling_at t i)
    && leb (kind_at t i) 1
    && eqb (byte t (16 * i + 13)) 0
    && eqb (byte t (16 * i + 14)) 0
    && eqb (byte t (16 * i + 15)) 0

-- it is wrong unless it is exactly 1,024 bytes and each row is right
unfoldable pub wrong : List ℕ → Bool
wrong t = not (eqb (length t) 1024 && every 64 (row_right t))

-- its rows, unless it is wrong
unfoldable pub checked : List ℕ → Result (List ℕ) WrongTable
checked t = cond (wrong t) (Err (record {})) (Ok t)
