-- What a run's requests and answers tell, and nothing of a board: what each desk did, and which transactions were committed.
-- It has the shape of `follow`: one clause for each answer.
use Rattle.std.specs.Prelude.{ℕ, List, [], ◌∷◌, get_or, set, replicate}
use Rattle.runs.specs.Runs.{after, answers}
use Rattle.runs.specs.Replay.{Op, got, put, Transaction, Replayed}
use Rattle.wire.specs.Requests.{Decoded, decode, desk_of, value_of}
use Rattle.wire.specs.declared.Answer.{Answer}
use Rattle.wire.specs.declared.Answer.TheVariants.{Refused, Opened, Value, Stored, Wait, Committed, Abandoned, Aborted}

-- what each desk did since its last granted begin, and the transactions committed; the latest first
pub record History : Type 0 where
  pub logs : List (List Op)
  pub done : List Transaction

abbrev pub nothing : History
nothing = record { logs = replicate 16 []; done = [] }

abbrev pub log_of : History → ℕ → List Op
log_of h d = get_or h.logs d []

abbrev pub logged : History → ℕ → List Op → History
logged h d l = record { logs = set h.logs d l; done = h.done }

-- after a request and its answer
abbrev pub told : History → Decoded → Answer → History
told h q (Refused n) = h
told h q (Opened a s) = logged h (desk_of q) []
told h q (Value i v) = logged h (desk_of q) (got i v ∷ log_of h (desk_of q))
told h q (Stored i) = logged h (desk_of q) (put i (value_of q) ∷ log_of h (desk_of q))
told h q (Wait i e) = h
told h q (Committed n) =
    record { logs = set h.logs (desk_of q) []; done = record { number = n.0; ops = log_of h (desk_of q) } ∷ h.done }
told h q Abandoned = logged h (desk_of q) []
told h q (Aborted w) = logged h (desk_of q) []

-- of requests, each 8 bytes, and their answers
abbrev pub history_from : History → List (List ℕ) → List Answer → History
history_from h [] ans = h
history_from h (q ∷ qs) [] = h
history_from h (q ∷ qs) (a ∷ ans) = history_from (told h (decode q) a) qs ans

-- the transactions committed
abbrev pub committed_by : List (List ℕ) → List Answer → List Transaction
committed_by qs ans = (history_from nothing qs ans).done

-- on any board: the run of these requests from s replays
abbrev pub RunReplays : {S : Type 0} → (S → List ℕ) → (S → List ℕ → S) → (S → List ℕ → Answer) → S → List (List ℕ) → Type 0
RunReplays values next reply s qs = Replayed (values s) (values (after next s qs)) (committed_by qs (answers next reply s qs))
