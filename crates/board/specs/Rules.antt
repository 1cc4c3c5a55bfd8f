-- The outline's rules: what is answered to a request, and the board after it. The answer comes first, and changes nothing;
-- the board follows the answer, and decides nothing.
use Rattle.std.specs.Prelude.{ℕ, zero, suc, ◌+◌, ◌-◌, ◌%◌, Bool, true, false, cond, not, ◌&&◌, List, [], ◌∷◌, ◌++◌, get_or, set, Option, Some, None, Result, Ok, Err, ltb, leb}
use Rattle.items.specs.First.{first}
use Rattle.items.specs.Items.{none, has, with, without, common, empty, lowest}
use Rattle.items.specs.declared.Items.{Items}
use Rattle.counters.specs.Counters.{no_age, next_age, next_number}
use Rattle.counters.specs.declared.Age.{Age}
use Rattle.counters.specs.declared.Number.{Number}
use Rattle.wire.specs.Checks.{Check, ◌fails◌, first_failing, unless}
use Rattle.wire.specs.Requests.{Decoded, decode, desk_of, value_of}
use Rattle.wire.specs.Answers.{refused}
use Rattle.wire.specs.declared.Request.{Request}
use Rattle.wire.specs.declared.Request.TheVariants.{Begin, Read, Write, End, Abandon}
use Rattle.wire.specs.declared.Refusal.{Refusal}
use Rattle.wire.specs.declared.Refusal.TheVariants.{AlreadyOpen, NoneOpen, NoSuchItem, BelowFloor, AboveCeiling, NoAgeLeft}
use Rattle.wire.specs.declared.Reason.{Reason}
use Rattle.wire.specs.declared.Reason.TheVariants.{Overwritten, TooOld}
use Rattle.wire.specs.declared.Answer.{Answer}
use Rattle.wire.specs.declared.Answer.TheVariants.{Refused, Opened, Value, Stored, Wait, Committed, Abandoned, Aborted}
use Rattle.desks.specs.Desks.{idle, opened, is_open, ageless, copy_of, desk_in, eldest, locked}
use Rattle.desks.specs.declared.Desk.{Desk}
use Rattle.board.specs.declared.Board.{Board}
use Rattle.board.specs.declared.Stepped.{Stepped}

-- ---- records of the board

abbrev pub desk_at : Board → ℕ → Desk
desk_at b d = desk_in b.desks d

abbrev pub is_guarded : Board → ℕ → Bool
is_guarded b i = has b.guarded i

-- ---- refusals 4 to 9, in their order

-- a read or a write with none open, or of an item above 63
abbrev pub item_checks : Desk → ℕ → List (Check Refusal)
item_checks k i = not (is_open k) fails NoneOpen ∷ ltb 63 i fails NoSuchItem ∷ []

-- the item that it may touch
abbrev pub item_open : Desk → ℕ → Result ℕ Refusal
item_open k i = unless (first_failing (item_checks k i)) Err (Ok i)

-- 9 is for a begin that needs a new age
abbrev pub checks : Board → ℕ → Request → List (Check Refusal)
checks b d Begin = is_open (desk_at b d) fails AlreadyOpen ∷ (ageless (desk_at b d) && leb 2000 b.age.0) fails NoAgeLeft ∷ []
checks b d (Read i) = item_checks (desk_at b d) i
checks b d (Write i v) =
    item_checks (desk_at b d) i ++ (ltb v (get_or b.floors i 0) fails BelowFloor ∷ ltb (get_or b.ceilings i 0) v fails AboveCeiling ∷ [])
checks b d End = not (is_open (desk_at b d)) fails NoneOpen ∷ []
checks b d Abandon = not (is_open (desk_at b d)) fails NoneOpen ∷ []

abbrev pub refusal : Board → ℕ → Request → Option Refusal
refusal b d r = first_failing (checks b d r)

-- ---- the begin

-- the age that the desk keeps from an abort, else the next one
abbrev pub age_for : Desk → Age → Age
age_for k last = cond (ageless k) (next_age last) k.age

-- ---- locks: `locked` of the crate desks

-- ---- the end

-- the write set of number n, while it is one of the last 16
abbrev pub write_set : List Items → ℕ → Items
write_set sets n = get_or sets (n % 16) none

-- it shares an item with the open-read set
abbrev pub shares : List Items → Items → ℕ → Bool
shares sets read n = not (empty (common (write_set sets n) read))

-- of the numbers above the start up to the last, the lowest whose write set shares an item with the open-read set;
-- the number after the last where there is none
unfoldable pub first_stale : List Items → Items → ℕ → ℕ → ℕ
first_stale sets read start last = start + 1 + first (last - start) (λ k. shares sets read (start + 1 + k))

-- why an end is overwritten, if it is: that item, the lowest where there are more, and that number
abbrev pub overwritten : List Items → Items → ℕ → ℕ → Option Reason
overwritten sets read start last =
    let stale = first_stale sets read start last in
    cond (ltb last stale) None (Some (Overwritten (lowest (common (write_set sets stale) read)) (record { 0 = stale })))

-- validation of a desk's record k, at last number n
abbrev pub ended : List Items → Number → Desk → Answer
ended sets n k =
    let commit : Answer = Committed (next_number n) in
    cond (empty k.read) commit
    (cond (ltb 16 (n.0 - k.start.0)) (Aborted (TooOld k.start))
    (unless (overwritten sets k.read k.start.0 n.0) Aborted commit))

-- ---- the answer

-- the desk's own copy if it has written the item, else the board's value
abbrev pub seen : List ℕ → Desk → ℕ → ℕ
seen values k i = cond (has k.written i) (copy_of k i) (get_or values i 0)

abbrev pub granted : Board → ℕ → Request → Answer
granted b d Begin = Opened (age_for (desk_at b d) b.age) b.number
granted b d (Read i) = locked b.desks b.guarded d i false (Value i (seen b.values (desk_at b d) i))
granted b d (Write i v) = locked b.desks b.guarded d i true (Stored i)
granted b d End = ended b.sets b.number (desk_at b d)
granted b d Abandon = Abandoned

-- what passes its checks is granted, else it is refused
abbrev pub allowed : Board → ℕ → Request → Result Answer Refusal
allowed b d r = unless (refusal b d r) Err (Ok (granted b d r))

-- a refusal is an answer too
abbrev pub told : Result Answer Refusal → Answer
told (Ok a) = a
told (Err r) = refused r

-- to request r of desk d
unfoldable pub answered : Board → ℕ → Request → Answer
answered b d r = unless (refusal b d r) refused (granted b d r)

unfoldable pub answer : Board → Decoded → Answer
answer b (Err n) = Refused n
answer b (Ok (d, r)) = answered b d r

-- ---- the board after it

-- with another last age, or other desks, or another record of desk d
abbrev pub with_age : Board → Age → Board
with_age b a =
    record
    { values = b.values; floors = b.floors; ceilings = b.ceilings; guarded = b.guarded; age = a; number = b.number; sets = b.sets; desks = b.desks }

abbrev pub with_desks : Board → List Desk → Board
with_desks b ds =
    record
    { values = b.values; floors = b.floors; ceilings = b.ceilings; guarded = b.guarded; age = b.age; number = b.number; sets = b.sets; desks = ds }

abbrev pub put : Board → ℕ → Desk → Board
put b d k = with_desks b (set b.desks d k)

-- the last age given: a new age is above it, and one that was kept is not
abbrev pub last_given : Age → Age → Age
last_given last a = cond (ltb last.0 a.0) a last

abbrev pub begun : Board → ℕ → Age → Number → Board
begun b d a s = put (with_age b (last_given b.age a)) d (opened a s)

-- an open item joins the open-read set; a guarded one, which g tells, joins the shared set if the desk has not written it
abbrev pub reading : Desk → ℕ → Bool → Desk
reading k i g =
    record {
      busy = k.busy;
      age = k.age;
      start = k.start;
      read = cond g k.read (with k.read i);
      shared = cond (g && not (has k.written i)) (with k.shared i) k.shared;
      written = k.written;
      copies = k.copies;
    }

-- the copy is stored, the item joins the written set and leaves the shared set
abbrev pub writing : Desk → ℕ → ℕ → Desk
writing k i v =
    record {
      busy = k.busy;
      age = k.age;
      start = k.start;
      read = k.read;
      shared = without k.shared i;
      written = with k.written i;
      copies = set k.copies i v;
    }

-- f in place of vs at each of the first n places that passes the test
unfoldable pub filled : (ℕ → Bool) → (ℕ → ℕ) → ℕ → List ℕ → List ℕ
filled p f zero vs = vs
filled p f (suc n) vs =
    let before = filled p f n vs in
    cond (p n) (set before n (f n)) before

-- f in place of the values of the items in w
abbrev pub installed : Items → (ℕ → ℕ) → List ℕ → List ℕ
installed w f vs = filled (has w) f 64 vs

-- the next number is taken, the copies are installed and the desk is freed; the write set is kept in place of the one of 16 numbers ago
abbrev pub committed : Board → ℕ → Number → Board
committed b d n =
    let k = desk_at b d in
    record {
      values = installed k.written (copy_of k) b.values;
      floors = b.floors;
      ceilings = b.ceilings;
      guarded = b.guarded;
      age = b.age;
      number = n;
      sets = set b.sets (n.0 % 16) k.written;
      desks = set b.desks d (idle no_age);
    }

-- an aborted desk keeps its age; one that has committed or abandoned does not
unfoldable pub follow : Board → Decoded → Answer → Board
follow b q (Refused n) = b
follow b q (Opened a s) = begun b (desk_of q) a s
follow b q (Value i v) = put b (desk_of q) (reading (desk_at b (desk_of q)) i (is_guarded b i))
follow b q (Stored i) = put b (desk_of q) (writing (desk_at b (desk_of q)) i (value_of q))
follow b q (Wait i e) = b
follow b q (Committed n) = committed b (desk_of q) n
follow b q Abandoned = put b (desk_of q) (idle no_age)
follow b q (Aborted w) = put b (desk_of q) (idle (desk_at b (desk_of q)).age)

-- ---- one request

abbrev pub stepped : Board → Decoded → Stepped Board
stepped b q = let a = answer b q in record { board = follow b q a; answer = a }

-- of 8 bytes
unfoldable pub step : Board → List ℕ → Stepped Board
step b bytes = stepped b (decode bytes)

-- of a run
abbrev pub next : Board → List ℕ → Board
next b q = (step b q).board

abbrev pub reply : Board → List ℕ → Answer
reply b q = (step b q).answer

-- opens all of them, for what is to be computed
unfoldable pub rules : Unit {0}
unfolding eldest first_stale answered answer filled follow step
rules = tt
