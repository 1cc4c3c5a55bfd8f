-- An answer's 12 bytes lose nothing that the outline fills: whoever reads them back has the desk byte and the answer again.
use Prim.Native.Nat.{ℕ, ◌<◌}
use mathlib.Core.Path.{◌≡◌, refl, ap, ap₂, sym, ◌∙◌}
use mathlib.Core.Bool.{cond}
use mathlib.Core.List.{List}
use lib.Dec.{eqb}
use Rattle.words.specs.Bytes.{byte, word_at}
use Rattle.words.proofs.Fours.{four_tell}
use Rattle.wire.specs.Answers.{number_of, fields, encode}
use Rattle.wire.specs.declared.Refusal.{Refusal}
use Rattle.wire.specs.declared.Refusal.TheVariants.{NoSuchKind, NoSuchDesk, UnusedNotZero, AlreadyOpen, NoneOpen, NoSuchItem, BelowFloor, AboveCeiling, NoAgeLeft, NoJournalLeft}
use Rattle.wire.specs.declared.Reason.TheVariants.{Overwritten, TooOld, Yield}
use Rattle.wire.specs.declared.Answer.{Answer}
use Rattle.wire.specs.declared.Answer.TheVariants.{Refused, Opened, Value, Stored, Wait, Committed, Abandoned, Aborted}

-- ---- refusals: no two have one number

-- the refusal of a number
abbrev refusal_of : ℕ → Refusal
refusal_of n =
    cond (eqb n 1) NoSuchKind
    (cond (eqb n 2) NoSuchDesk
    (cond (eqb n 3) UnusedNotZero
    (cond (eqb n 4) AlreadyOpen
    (cond (eqb n 5) NoneOpen
    (cond (eqb n 6) NoSuchItem
    (cond (eqb n 7) BelowFloor
    (cond (eqb n 8) AboveCeiling
    (cond (eqb n 9) NoAgeLeft NoJournalLeft))))))))

told_back : (r : Refusal) → refusal_of (number_of r) ≡ r
told_back NoSuchKind = refl
told_back NoSuchDesk = refl
told_back UnusedNotZero = refl
told_back AlreadyOpen = refl
told_back NoneOpen = refl
told_back NoSuchItem = refl
told_back BelowFloor = refl
told_back AboveCeiling = refl
told_back NoAgeLeft = refl
told_back NoJournalLeft = refl

pub number_tells : (r s : Refusal) → number_of r ≡ number_of s → r ≡ s
number_tells r s same = sym (told_back r) ∙ ap refusal_of same ∙ told_back s

-- ---- answers

-- the answer that code, item, reason, first and second number tell
abbrev answer_of : ℕ → ℕ → ℕ → ℕ → ℕ → Answer
answer_of code item reason first second =
    cond (eqb code 0) (Refused reason)
    (cond (eqb code 1) (Opened (record { 0 = first }) (record { 0 = second }))
    (cond (eqb code 2) (Value item first)
    (cond (eqb code 3) (Stored item)
    (cond (eqb code 4) (Wait item first)
    (cond (eqb code 5) (Committed (record { 0 = first }))
    (cond (eqb code 6) Abandoned
    (Aborted
    (cond (eqb reason 1) (Overwritten item (record { 0 = first }))
    (cond (eqb reason 2) (TooOld (record { 0 = first })) (Yield item first))))))))))

abbrev from_fields : List ℕ → Answer
from_fields f = answer_of (byte f 0) (byte f 1) (byte f 2) (byte f 3) (byte f 4)

fields_tell : (a : Answer) → from_fields (fields a) ≡ a
fields_tell (Refused n) = refl
fields_tell (Opened a s) = refl
fields_tell (Value i v) = refl
fields_tell (Stored i) = refl
fields_tell (Wait i e) = refl
fields_tell (Committed n) = refl
fields_tell Abandoned = refl
fields_tell (Aborted (Overwritten i n)) = refl
fields_tell (Aborted (TooOld s)) = refl
fields_tell (Aborted (Yield i e)) = refl

-- the first and the second number fit four bytes each: those of the hub are of the machine's 32 bits
pub record Small (a : Answer) : Type 0 where
  pub first : byte (fields a) 3 < 4294967296
  pub second : byte (fields a) 4 < 4294967296

-- what is read back of 12 bytes
abbrev heard : List ℕ → Answer
heard r = answer_of (byte r 0) (byte r 2) (byte r 3) (word_at r 4) (word_at r 8)

pub encode_heard : (d : ℕ) (a : Answer) → Small a → heard (encode d a) ≡ a
unfolding encode
encode_heard d a s =
    let f = fields a in
    ap₂ (answer_of (byte f 0) (byte f 1) (byte f 2)) (four_tell (byte f 3) s.first) (four_tell (byte f 4) s.second) ∙ fields_tell a

desk_byte : (d : ℕ) (a : Answer) → byte (encode d a) 1 ≡ d
unfolding encode
desk_byte d a = refl

-- two answers with the same 12 bytes are one answer, to the same desk byte
pub encode_tells : (d e : ℕ) (a b : Answer) → Small a → Small b → encode d a ≡ encode e b → (d ≡ e) × (a ≡ b)
encode_tells d e a b s t same = (
  sym (desk_byte d a) ∙ ap (λ (r : List ℕ). byte r 1) same ∙ desk_byte e b,
  sym (encode_heard d a s) ∙ ap heard same ∙ encode_heard e b t,
)
