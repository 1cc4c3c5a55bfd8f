-- The outline's example: its table, and requests as bytes.
use Rattle.std.specs.Prelude.{◌≡◌, refl, false, List, [], ◌∷◌, ◌++◌, ℕ, zero, suc, replicate}
use Rattle.items.specs.Items.{none, sets}
use Rattle.counters.specs.Counters.{no_age, no_number}
use Rattle.words.specs.Bytes.{four_bytes}
use Rattle.wire.specs.Requests.{request_of, unused_zero, decode}
use Rattle.table.specs.Table.{row_right, wrong}
use Rattle.desks.specs.Desks.{idle}
use Rattle.board.specs.Rules.{rules}
use Rattle.board.specs.Opening.{gathered, opening}

abbrev row : ℕ → ℕ → ℕ → ℕ → List ℕ
row floor ceiling value kind = four_bytes floor ++ four_bytes ceiling ++ four_bytes value ++ kind ∷ 0 ∷ 0 ∷ 0 ∷ []

abbrev rows : ℕ → List ℕ → List ℕ
rows zero r = []
rows (suc n) r = r ++ rows n r

-- item 0 open, 30 to 250, value 140; item 1 guarded, 0 to 1, value 0; others open, 0 to 1,000, value 0
unfoldable pub table : List ℕ
table = row 30 250 140 0 ++ row 0 1 0 1 ++ rows 62 (row 0 1000 0 0)

pub table_right : wrong table ≡ false
unfolding table wrong row_right sets
table_right = refl

-- opens all that an example computes by
unfoldable pub computing : Unit {0}
unfolding table opening gathered rules sets decode request_of unused_zero
computing = tt

-- the board that it opens
pub table_opens :
    opening table
    ≡ record {
      values = 140 ∷ 0 ∷ replicate 62 0;
      floors = 30 ∷ 0 ∷ replicate 62 0;
      ceilings = 250 ∷ 1 ∷ replicate 62 1000;
      guarded = record { 0 = 2 };
      age = no_age;
      number = no_number;
      sets = replicate 16 none;
      desks = replicate 16 (idle no_age);
    }
unfolding computing
table_opens = refl

-- ---- requests

abbrev pub begin : ℕ → List ℕ
begin d = 1 ∷ d ∷ 0 ∷ 0 ∷ four_bytes 0

abbrev pub read : ℕ → ℕ → List ℕ
read d i = 2 ∷ d ∷ i ∷ 0 ∷ four_bytes 0

abbrev pub write : ℕ → ℕ → ℕ → List ℕ
write d i v = 3 ∷ d ∷ i ∷ 0 ∷ four_bytes v

abbrev pub end : ℕ → List ℕ
end d = 4 ∷ d ∷ 0 ∷ 0 ∷ four_bytes 0

abbrev pub abandon : ℕ → List ℕ
abandon d = 5 ∷ d ∷ 0 ∷ 0 ∷ four_bytes 0
