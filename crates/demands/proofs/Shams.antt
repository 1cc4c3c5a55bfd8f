-- Sham hubs, and which statement shuts each out: `Follows` fixes each answer and each board, so that none of them meets it.
-- The exchange alone would admit the first three: one that refuses everything, one that sends the same answer to everything and
-- one that answers by the rules, if none of them changes its board.
use mathlib.Core.Path.{◌≡◌, refl, ap, ◌∙◌}
use mathlib.Core.Bool.{Bool, true, false, cond}
use mathlib.Core.List.{List, [], ◌∷◌, map}
use Prim.Native.Nat.{ℕ}
use native.Mathlib.Omega.{arith}
use Rattle.counters.specs.Counters.{next_number}
use Rattle.items.proofs.Laws.{has-none}
use Rattle.runs.specs.Runs.{Exchanged}
use Rattle.runs.proofs.Neighbours.{exchanged}
use Rattle.words.specs.Bytes.{byte}
use Rattle.wire.specs.Answers.{fields}
use Rattle.wire.specs.Requests.{request_of, unused_zero, decode}
use Rattle.wire.specs.declared.Answer.{Answer}
use Rattle.wire.specs.declared.Answer.TheVariants.{Refused, Opened, Value, Stored, Wait, Committed, Abandoned, Aborted}
use Rattle.board.specs.Rules.{step, next, reply}
use Rattle.board.specs.Opening.{opening}
use Rattle.demands.specs.History.{RunReplays}
use Rattle.demands.specs.Demands.{Apart}
use Rattle.board.specs.declared.Board.{Board}
use Rattle.demands.proofs.Needed.{not_both}
use Rattle.board.specs.Example.{table, computing, begin, end, abandon}

abbrev itself : Board → Board
itself b = b

-- a hub with states S, of which `view` shows the board, follows the rules: each answer and each board is theirs
pub record Follows {S : Type 0} (view : S → Board) (next : S → List ℕ → S) (reply : S → List ℕ → Answer) : Type 0 where
  pub answered : (s : S) (q : List ℕ) → reply s q ≡ (step (view s) q).answer
  pub left : (s : S) (q : List ℕ) → view (next s q) ≡ (step (view s) q).board

-- the rules' own do
pub honest : Follows itself next reply
honest = record { answered = λ b q. refl; left = λ b q. refl }

-- ---- the same answer to everything, whatever the board does: `Refused 1` is the one that refuses everything

-- an answer's code
abbrev code : Answer → ℕ
code a = byte (fields a) 0

abbrev constant : Answer → Board → List ℕ → Answer
constant a b q = a

begins : code (reply (opening table) (begin 0)) ≡ 1
unfolding computing
begins = refl

ends : code (reply (opening table) (end 0)) ≡ 0
unfolding computing
ends = refl

pub constant_out : (a : Answer) (next : Board → List ℕ → Board) → Follows itself next (constant a) → ⊥
constant_out a next f =
    let one : code a ≡ 1 = ap code (f.answered (opening table) (begin 0)) ∙ begins in
    let zero : code a ≡ 0 = ap code (f.answered (opening table) (end 0)) ∙ ends in
    omega arith

-- ---- a board that never changes, whatever it answers

abbrev stays : Board → List ℕ → Board
stays b q = b

pub stays_out : (reply : Board → List ℕ → Answer) → Follows itself stays reply → ⊥
unfolding computing
stays_out reply f = let e : ◌≡◌ {A = ℕ} 0 1 = ap (λ (b : Board). b.age.0) (f.left (opening table) (begin 0)) in omega arith

-- yet the exchange admits it, for every run and pair: the board is the same at the end, and each request has the answer that it had
pub stays_exchanged :
    (reply : Board → List ℕ → Answer) (b : Board) (before : List (List ℕ)) (p q : List ℕ) (later : List (List ℕ))
    → Exchanged stays reply b before p q later
stays_exchanged reply b before p q later =
    exchanged stays reply (λ b. Unit {0}) (λ b p q. Unit {0}) (λ b q h. tt) (λ b p q h m. record { board = refl; first = refl; second = refl })
    b tt before p q later tt

-- ---- one that handles the first request truly and feigns the rest: it notes whether a request has been

abbrev State : Type 0
State = Board × Bool

abbrev shows : State → Board
shows s = s.0

abbrev once : State → List ℕ → State
once s q = cond s.1 s (next s.0 q, true)

abbrev feigns : State → List ℕ → Answer
feigns s q = cond s.1 (Refused 1) (reply s.0 q)

pub feigns_out : Follows shows once feigns → ⊥
feigns_out f = let e : ◌≡◌ {A = ℕ} 0 1 = ap code (f.answered (opening table, true) (begin 0)) ∙ begins in omega arith

-- nor would the exchange admit it: these two are apart, and only the one that stands first has its true answer
pub feigns_apart : Apart (opening table) (decode (begin 0)) (decode (abandon 1))
unfolding opening decode request_of unused_zero
feigns_apart = record { desks = not_both; ends = refl; items = λ i low. rw (has-none i) }

pub feigns_not_exchanged : Exchanged once feigns (opening table, false) [] (begin 0) (abandon 1) [] → ⊥
unfolding computing
feigns_not_exchanged e = let f : ◌≡◌ {A = ℕ} 0 1 = ap (λ (l : List Answer). byte (map code l) 1) e.replies in omega arith

-- ---- an honest one but that its numbers are made up: what it commits is not numbered 1, 2, 3 and on

abbrev made_up : Answer → Answer
made_up (Refused n) = Refused n
made_up (Opened a s) = Opened a s
made_up (Value i v) = Value i v
made_up (Stored i) = Stored i
made_up (Wait i e) = Wait i e
made_up (Committed n) = Committed (next_number n)
made_up Abandoned = Abandoned
made_up (Aborted w) = Aborted w

pub made_up_out : RunReplays (λ b. b.values) next (λ b q. made_up (reply b q)) (opening table) (begin 0 ∷ end 0 ∷ []) → ⊥
unfolding computing
made_up_out r = let e : ◌≡◌ {A = ℕ} 2 1 = r.numbered.0 in omega arith
