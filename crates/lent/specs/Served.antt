-- What requests write into a buffer: answers of 12 bytes.
use Rattle.std.specs.Prelude.{ℕ, List, [], ◌∷◌, ◌++◌}
use Rattle.runs.specs.Runs.{answers}
use Rattle.words.specs.Bytes.{byte}
use Rattle.wire.specs.Answers.{encode}
use Rattle.wire.specs.declared.Answer.{Answer}

-- the answers to requests, 12 bytes each with the request's desk byte
unfoldable pub twelve_each : List (List ℕ) → List Answer → List ℕ
twelve_each [] l = []
twelve_each (q ∷ qs) [] = []
twelve_each (q ∷ qs) (a ∷ l) = encode (byte q 1) a ++ twelve_each qs l

-- requests handed over one at a time to any board: the bytes of their answers
abbrev pub served : {S : Type 0} → (S → List ℕ → S) → (S → List ℕ → Answer) → S → List (List ℕ) → List ℕ
served next reply s qs = twelve_each qs (answers next reply s qs)

-- one call for each request: what the calls write, one after another, where a call leaves the board `left` and writes `bytes`
abbrev pub written : {S : Type 0} → (S → List ℕ → S) → (S → List ℕ → List ℕ) → S → List (List ℕ) → List ℕ
written left bytes s [] = []
written left bytes s (q ∷ qs) = bytes s q ++ written left bytes (left s q) qs
