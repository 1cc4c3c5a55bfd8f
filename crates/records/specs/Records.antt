-- The journal's records, 8 bytes each: for each item written, ascending, byte 0 = 1, byte 1 the item, bytes 2 and 3 the commit's number,
-- bytes 4 to 7 the value; then the closing record, in the same places 2, 0, the number, the count of items written. Low byte first.
use Rattle.std.specs.Prelude.{ℕ, zero, suc, ◌+◌, ◌*◌, ◌/◌, ◌%◌, cond, List, [], ◌∷◌, ◌++◌, ltb, length}
use Rattle.std.proofs.Math.Seq.{paste}
use Rattle.items.specs.Items.{has, count_below}
use Rattle.items.specs.declared.Items.{Items}
use Rattle.counters.specs.declared.Number.{Number}
use Rattle.words.specs.Bytes.{four_bytes}
use Rattle.desks.specs.Desks.{copy_of}
use Rattle.desks.specs.declared.Desk.{Desk}
use Rattle.pieces.specs.Pieces.{in_one}

abbrev pub record_of : ℕ → ℕ → ℕ → ℕ → List ℕ
record_of kind item number value = kind ∷ item ∷ number % 256 ∷ number / 256 % 256 ∷ four_bytes value

-- the record of item i with value v in the commit of number n, if the item is in w
abbrev pub item_record : Items → ℕ → ℕ → ℕ → List (List ℕ)
item_record w i n v = cond (has w i) (record_of 1 i n v ∷ []) []

-- those of the items below i, ascending, with the values f
unfoldable pub item_records : Items → (ℕ → ℕ) → ℕ → ℕ → List (List ℕ)
item_records w f n zero = []
item_records w f n (suc i) = item_records w f n i ++ item_record w i n (f i)

-- a commit's records
abbrev pub entry : Items → (ℕ → ℕ) → ℕ → List (List ℕ)
entry w f n = item_records w f n 64 ++ (record_of 2 0 n (count_below w 64) ∷ [])

-- the bytes of the records of a commit of the desk's copies, under this number
abbrev pub records_of : Desk → Number → List ℕ
records_of k n = in_one (entry k.written (copy_of k) n.0)

-- how many bytes they are
abbrev pub size_of : Items → ℕ
size_of w = 8 * count_below w 64 + 8

-- ---- the buffer that holds them

-- how much of a buffer of this length is used: bytes past the first 65,536 are neither read nor written
abbrev pub room : ℕ → ℕ
room n = cond (ltb 65536 n) 65536 n

-- s in place of what stood from index at on
abbrev pub over : List ℕ → ℕ → List ℕ → List ℕ
over j at s = paste j at s (length s)
