-- The 8 bytes of a request, check by check: the first that fails gives its refusal, told by name or by number, and where none does a desk asks.
use mathlib.Core.List.{List}
use Prim.Native.Nat.{ℕ, ◌<◌, suc-le-suc}
use borrow.Author.Tests.{ltb-false}
use Rattle.std.specs.Prelude.{Result, Ok, Err}
use Rattle.words.specs.Bytes.{byte, word_at}
use Rattle.wire.specs.Answers.{number_of}
use Rattle.wire.specs.Requests.{request_of, form_checks, malformed, checked, numbered, decode}
use Rattle.wire.specs.declared.Request.{Request}
use Rattle.wire.specs.declared.Refusal.{Refusal}
use Rattle.wire.proofs.Checks.{all_passed, unless_ways}

-- the request that a record's bytes tell, if nothing is wrong with them
abbrev pub wanted : List ℕ → Request
wanted q = request_of (byte q 0) (byte q 2) (word_at q 4)

-- what 8 bytes are found to be: one of the sixteen desks asks what they tell, or they are malformed, and an N tells why
pub data Shape (q : List ℕ) {N : Type 0} : Result (ℕ × Request) N → Type 0 where
  bad : (n : N) → Shape q (Err n)
  good : byte q 1 < 16 → Shape q (Ok (byte q 1, wanted q))

-- by the refusal, as they are checked
pub shape_checked : (q : List ℕ) → Shape q (checked q)
shape_checked q =
    unless_ways (Shape q) (malformed q) (λ r e. bad r)
    (λ e. good (suc-le-suc (ltb-false 15 (byte q 1) (all_passed (form_checks q) e).1.0)))

-- by its number, as they are decoded
pub shape : (q : List ℕ) → Shape q (decode q)
unfolding decode
shape q = go (shape_checked q)
  where
    go : {x : Result (ℕ × Request) Refusal} → Shape q x → Shape q (numbered x)
    go (bad r) = bad (number_of r)
    go (good h) = good h
