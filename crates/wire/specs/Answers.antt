-- Outline, "What comes back": a 12-byte record: byte 0 code, 1 the request's desk byte, 2 item, 3 reason, 4 to 7 first number, 8 to 11 second.
use Rattle.std.specs.Prelude.{ℕ, List, [], ◌∷◌, ◌++◌}
use Rattle.words.specs.Bytes.{byte, four_bytes}
use Rattle.wire.specs.declared.Refusal.{Refusal}
use Rattle.wire.specs.declared.Refusal.TheVariants.{NoSuchKind, NoSuchDesk, UnusedNotZero, AlreadyOpen, NoneOpen, NoSuchItem, BelowFloor, AboveCeiling, NoAgeLeft, NoJournalLeft}
use Rattle.wire.specs.declared.Reason.{Reason}
use Rattle.wire.specs.declared.Reason.TheVariants.{Overwritten, TooOld, Yield}
use Rattle.wire.specs.declared.Answer.{Answer}
use Rattle.wire.specs.declared.Answer.TheVariants.{Refused, Opened, Value, Stored, Wait, Committed, Abandoned, Aborted}

-- the number of a refusal; a whole run's are 10 to 14
abbrev pub number_of : Refusal → ℕ
number_of NoSuchKind = 1
number_of NoSuchDesk = 2
number_of UnusedNotZero = 3
number_of AlreadyOpen = 4
number_of NoneOpen = 5
number_of NoSuchItem = 6
number_of BelowFloor = 7
number_of AboveCeiling = 8
number_of NoAgeLeft = 9
number_of NoJournalLeft = 15

-- a refusal is answered by its number
abbrev pub refused : Refusal → Answer
refused r = Refused (number_of r)

-- what an aborted answer fills: item, reason, first number; of a yield that is the desk that holds the item
abbrev pub aborted : Reason → List ℕ
aborted (Overwritten i n) = 7 ∷ i ∷ 1 ∷ n.0 ∷ 0 ∷ []
aborted (TooOld s) = 7 ∷ 0 ∷ 2 ∷ s.0 ∷ 0 ∷ []
aborted (Yield i e) = 7 ∷ i ∷ 3 ∷ e ∷ 0 ∷ []

-- code, item, reason, first and second number; zero where nothing is said. The first number of a wait is the desk that holds the item
abbrev pub fields : Answer → List ℕ
fields (Refused n) = 0 ∷ 0 ∷ n ∷ 0 ∷ 0 ∷ []
fields (Opened a s) = 1 ∷ 0 ∷ 0 ∷ a.0 ∷ s.0 ∷ []
fields (Value i v) = 2 ∷ i ∷ 0 ∷ v ∷ 0 ∷ []
fields (Stored i) = 3 ∷ i ∷ 0 ∷ 0 ∷ 0 ∷ []
fields (Wait i e) = 4 ∷ i ∷ 0 ∷ e ∷ 0 ∷ []
fields (Committed n) = 5 ∷ 0 ∷ 0 ∷ n.0 ∷ 0 ∷ []
fields Abandoned = 6 ∷ 0 ∷ 0 ∷ 0 ∷ 0 ∷ []
fields (Aborted why) = aborted why

-- the 12 bytes
abbrev pub record_of : ℕ → ℕ → ℕ → ℕ → ℕ → ℕ → List ℕ
record_of code desk item reason first second = code ∷ desk ∷ item ∷ reason ∷ four_bytes first ++ four_bytes second

unfoldable pub encode : ℕ → Answer → List ℕ
encode desk a = let f = fields a in record_of (byte f 0) desk (byte f 1) (byte f 2) (byte f 3) (byte f 4)

-- the item of a value given or stored
abbrev pub item_of : Answer → ℕ
item_of (Refused n) = 0
item_of (Opened a s) = 0
item_of (Value i v) = i
item_of (Stored i) = i
item_of (Wait i e) = 0
item_of (Committed n) = 0
item_of Abandoned = 0
item_of (Aborted why) = 0
