-- The restart: an opening table and a journal, cut or damaged anywhere, to the table with the values after the last whole commit.
use Rattle.std.specs.Prelude.{ℕ, ◌+◌, ◌*◌, ◌/◌, Bool, true, false, cond, ◌&&◌, List, eqb, leb, ℤ, pos, neg_ℤ, set, length, Option, Some, None, Result, Ok, Err}
use Rattle.runs.specs.Runs.{after}
use Rattle.words.specs.Bytes.{byte, word_at}
use Rattle.table.specs.Table.{floor_at, ceiling_at, wrong}
use Rattle.table.specs.declared.WrongTable.{WrongTable}
use Rattle.board.specs.Opening.{opening}
use Rattle.pieces.specs.Pieces.{eights_of, put_each}
use Rattle.records.specs.Records.{room}
use Rattle.restart.specs.declared.reader.Reader.{Reader}

-- ---- how far it is read

-- the whole commits so far and the values after them; of the commit that is being read, how many items, the lowest that may come next,
-- and the values with these; and whether the reading has stopped
pub record Reading : Type 0 where
  pub commits : ℕ
  pub whole : List ℕ
  pub items : ℕ
  pub next : ℕ
  pub values : List ℕ
  pub stopped : Bool

-- a reader that goes on
abbrev pub going : Reader → Reading
going r = record { commits = r.commits; whole = r.whole; items = r.items; next = r.next; values = r.values; stopped = false }

-- what a reading has read, whether it has stopped or not
abbrev pub as_if_going : Reading → Reading
as_if_going at =
    record { commits = at.commits; whole = at.whole; items = at.items; next = at.next; values = at.values; stopped = false }

-- the reading, unless it has stopped
abbrev pub still : Reading → Option Reading
still at = cond at.stopped None (Some at)

-- ---- a record

abbrev pub number_in : List ℕ → ℕ
number_in r = byte r 2 + 256 * byte r 3

abbrev pub value_in : List ℕ → ℕ
value_in r = word_at r 4

-- an item of the commit that is being read: below 64, above the one before it, its value within its limits, and the number the one
-- after the last closed
unfoldable pub fits_item : List ℕ → Reading → List ℕ → Bool
fits_item t at r =
    eqb (byte r 0) 1
    && leb at.next (byte r 1)
    && leb (byte r 1) 63
    && eqb (number_in r) (at.commits + 1)
    && leb (floor_at t (byte r 1)) (value_in r)
    && leb (value_in r) (ceiling_at t (byte r 1))

-- the closing record of that commit: the same number, and the count of the items read
unfoldable pub fits_closing : Reading → List ℕ → Bool
fits_closing at r = eqb (byte r 0) 2 && eqb (byte r 1) 0 && eqb (number_in r) (at.commits + 1) && eqb (value_in r) at.items

-- ---- reading, record by record

-- nothing yet, with these values
abbrev pub unread : List ℕ → Reading
unread values = record { commits = 0; whole = values; items = 0; next = 0; values = values; stopped = false }

-- item i with value v
abbrev pub item_read : Reading → ℕ → ℕ → Reading
item_read at i v =
    record {
      commits = at.commits;
      whole = at.whole;
      items = at.items + 1;
      next = i + 1;
      values = set at.values i v;
      stopped = at.stopped;
    }

abbrev pub closed : Reading → Reading
closed at = record { commits = at.commits + 1; whole = at.values; items = 0; next = 0; values = at.values; stopped = at.stopped }

abbrev pub halted : Reading → Reading
halted at =
    record { commits = at.commits; whole = at.whole; items = at.items; next = at.next; values = at.values; stopped = true }

-- it stops at the first record that does not fit the form or the order; a zeroed one fits none
unfoldable pub read : List ℕ → Reading → List ℕ → Reading
read t at r =
    cond at.stopped at
    (cond (fits_item t at r) (item_read at (byte r 1) (value_in r))
    (cond (fits_closing at r) (closed at)
    (halted at)))

-- the whole records of a journal, as far as it is used
unfoldable pub restored : List ℕ → List ℕ → Reading
restored t j = after (read t) (unread (opening t).values) (eights_of j (room (length j) / 8))

-- ---- the table after it

-- the values vs in its rows, at byte 8 of the 16
abbrev pub with_values : List ℕ → List ℕ → List ℕ
with_values t vs = put_each 8 16 t vs 64

-- the number that is told: the count, or minus that of the refusal
abbrev pub number_of : Result ℕ WrongTable → ℤ
number_of (Ok n) = pos n
number_of (Err e) = neg_ℤ (pos 10)

-- the number returned, and the table then
pub data Restarted : Type 0 where
  told : ℤ → List ℕ → Restarted

-- how many commits are whole, and the table with the values after them; a wrong table is refused with 10 and stays as it is
unfoldable pub restarted : List ℕ → List ℕ → Restarted
restarted t j =
    let at = restored t j in
    cond (wrong t) (told (neg_ℤ (pos 10)) t) (told (pos at.commits) (with_values t at.whole))
