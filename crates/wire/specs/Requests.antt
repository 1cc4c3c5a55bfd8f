-- Outline, "Requests": one of five kinds, in an 8-byte record: byte 0 kind, byte 1 desk, byte 2 item, byte 3 zero, bytes 4 to 7 a value.
use Rattle.std.specs.Prelude.{ℕ, Bool, cond, not, ◌&&◌, ◌||◌, List, [], ◌∷◌, Option, Some, None, Result, Ok, Err, eqb, ltb}
use Rattle.words.specs.Bytes.{byte, word_at}
use Rattle.wire.specs.Checks.{Check, ◌fails◌, first_failing, unless}
use Rattle.wire.specs.Answers.{number_of}
use Rattle.wire.specs.declared.Request.{Request}
use Rattle.wire.specs.declared.Request.TheVariants.{Begin, Read, Write, End, Abandon}
use Rattle.wire.specs.declared.Refusal.{Refusal}
use Rattle.wire.specs.declared.Refusal.TheVariants.{NoSuchKind, NoSuchDesk, UnusedNotZero}

-- 1 begin, 2 read, 3 write, 4 end, 5 abandon
unfoldable pub request_of : ℕ → ℕ → ℕ → Request
request_of kind item value =
    cond (eqb kind 1) Begin
    (cond (eqb kind 2) (Read item)
    (cond (eqb kind 3) (Write item value)
    (cond (eqb kind 4) End Abandon)))

-- of a kind that is none of these there is none
abbrev pub request_in : ℕ → ℕ → ℕ → Option Request
request_in kind item value = cond (eqb kind 0 || ltb 5 kind) None (Some (request_of kind item value))

-- fields a kind does not use are zero: the item but of a read or a write, the value but of a write; no kind uses byte 3
unfoldable pub unused_zero : ℕ → ℕ → ℕ → ℕ → Bool
unused_zero kind item spare value =
    eqb spare 0 && (eqb kind 2 || eqb kind 3 || eqb item 0) && (eqb kind 3 || eqb value 0)

-- refusals 1 to 3, in that order
abbrev pub form_checks : List ℕ → List (Check Refusal)
form_checks q =
    (eqb (byte q 0) 0 || ltb 5 (byte q 0)) fails NoSuchKind
    ∷ ltb 15 (byte q 1) fails NoSuchDesk
    ∷ not (unused_zero (byte q 0) (byte q 2) (byte q 3) (word_at q 4)) fails UnusedNotZero
    ∷ []

abbrev pub malformed : List ℕ → Option Refusal
malformed q = first_failing (form_checks q)

-- what they answer: the desk that asks and its request, or the refusal
abbrev pub checked : List ℕ → Result (ℕ × Request) Refusal
checked q = unless (malformed q) Err (Ok (byte q 1, request_of (byte q 0) (byte q 2) (word_at q 4)))

-- the same, with the number of the refusal
abbrev pub Decoded : Type 0
Decoded = Result (ℕ × Request) ℕ

abbrev pub numbered : Result (ℕ × Request) Refusal → Decoded
numbered (Ok asked) = Ok asked
numbered (Err r) = Err (number_of r)

unfoldable pub decode : List ℕ → Decoded
decode q = numbered (checked q)

-- the desk that asks; what is malformed is refused, which changes no desk, and another stands in: desk 0
abbrev pub desk_or : {D : Type 0} → D → Result (D × Request) ℕ → D
desk_or other (Ok (d, r)) = d
desk_or other (Err n) = other

abbrev pub desk_of : Decoded → ℕ
desk_of q = desk_or 0 q

-- the value of a write
abbrev pub value_in : Request → ℕ
value_in Begin = 0
value_in (Read i) = 0
value_in (Write i v) = v
value_in End = 0
value_in Abandon = 0

abbrev pub value_of : {D : Type 0} → Result (D × Request) ℕ → ℕ
value_of (Ok (d, r)) = value_in r
value_of (Err n) = 0
