-- What is demanded of every run, from any right opening table and with any requests, malformed ones too.
use Rattle.std.specs.Prelude.{ℕ, ◌<◌, ◌≡◌, ◌≢◌, Bool, true, false, ◌&&◌, ◌||◌, List, eqb, Ok, Err}
use Rattle.items.specs.Items.{has}
use Rattle.runs.specs.Runs.{after, Exchanged}
use Rattle.words.specs.Bytes.{byte}
use Rattle.wire.specs.Requests.{Decoded, decode}
use Rattle.table.specs.Table.{wrong}
use Rattle.wire.specs.declared.Request.{Request}
use Rattle.wire.specs.declared.Request.TheVariants.{Begin, Read, Write, End, Abandon}
use Rattle.wire.specs.declared.Answer.{Answer}
use Rattle.wire.specs.declared.Answer.TheVariants.{Refused, Opened, Value, Stored, Wait, Committed, Abandoned, Aborted}
use Rattle.board.specs.Rules.{desk_at, next, reply}
use Rattle.board.specs.Opening.{opening}
use Rattle.demands.specs.History.{RunReplays}
use Rattle.desks.specs.declared.Desk.{Desk}
use Rattle.board.specs.declared.Board.{Board}

-- ---- a refusal or a wait changes nothing on the board

abbrev pub changes_nothing : Answer → Bool
changes_nothing (Refused n) = true
changes_nothing (Opened a s) = false
changes_nothing (Value i v) = false
changes_nothing (Stored i) = false
changes_nothing (Wait i e) = true
changes_nothing (Committed n) = false
changes_nothing Abandoned = false
changes_nothing (Aborted w) = false

abbrev pub Unchanged : Type 0
Unchanged = (b : Board) (q : List ℕ) → changes_nothing (reply b q) ≡ true → next b q ≡ b

-- ---- the second demand: replaying the committed transactions in number order from the opening values
-- gives each read the value it was given and ends with the same values

abbrev pub Replays : Type 0
Replays =
    (table : List ℕ) → wrong table ≡ false → (requests : List (List ℕ))
    → RunReplays (λ b. b.values) next reply (opening table) requests

-- ---- the third demand: two neighbouring requests that share nothing may be exchanged

-- it is a request of desk d
abbrev pub is_from : Decoded → ℕ → Bool
is_from (Ok (e, r)) d = eqb e d
is_from (Err n) d = false

-- it is a begin or an end
abbrev pub bound : Request → Bool
bound Begin = true
bound (Read i) = false
bound (Write i v) = false
bound End = true
bound Abandon = false

abbrev pub bounds : Decoded → Bool
bounds (Ok (d, r)) = bound r
bounds (Err n) = false

-- it is a read or a write, of item i
abbrev pub names : Request → ℕ → Bool
names Begin i = false
names (Read j) i = eqb j i
names (Write j v) i = eqb j i
names End i = false
names Abandon i = false

-- item i is in one of the desk's three sets
abbrev pub touched : Desk → ℕ → Bool
touched k i = has k.read i || has k.shared i || has k.written i

-- its desk has touched item i, or it names item i
abbrev pub concerns : Board → Decoded → ℕ → Bool
concerns b (Ok (d, r)) i = touched (desk_at b d) i || names r i
concerns b (Err n) i = false

-- on board b: of different desks, at most one a begin or an end, and no item that concerns both
pub record Apart (b : Board) (p q : Decoded) : Type 0 where
  pub desks : (d : ℕ) → (is_from p d && is_from q d) ≡ false
  pub ends : (bounds p && bounds q) ≡ false
  pub items : (i : ℕ) → i < 64 → (concerns b p i && concerns b q i) ≡ false

abbrev pub Exchanges : Type 0
Exchanges =
    (table : List ℕ) → wrong table ≡ false → (before : List (List ℕ)) (p q : List ℕ) (later : List (List ℕ))
    → Apart (after next (opening table) before) (decode p) (decode q)
    → Exchanged next reply (opening table) before p q later

-- the same two requests by their bytes alone, as the outline words it: such a pair is apart, whether malformed or not
abbrev pub names_byte : List ℕ → ℕ → Bool
names_byte q i = (eqb (byte q 0) 2 || eqb (byte q 0) 3) && eqb (byte q 2) i

abbrev pub bounds_byte : List ℕ → Bool
bounds_byte q = eqb (byte q 0) 1 || eqb (byte q 0) 4

pub record ApartByBytes (b : Board) (p q : List ℕ) : Type 0 where
  pub desks : byte p 1 ≢ byte q 1
  pub ends : (bounds_byte p && bounds_byte q) ≡ false
  pub items :
      (i : ℕ) → i < 64
      → ((touched (desk_at b (byte p 1)) i || names_byte p i) && (touched (desk_at b (byte q 1)) i || names_byte q i)) ≡ false

abbrev pub AsWorded : Type 0
AsWorded = (b : Board) (p q : List ℕ) → ApartByBytes b p q → Apart b (decode p) (decode q)
