-- What an age is worth to a desk: aborted, it begins again as old as it was; nobody becomes older than it meanwhile; and the oldest of the
-- open desks is never made to yield.
use Rattle.std.specs.Prelude.{ℕ, ◌<◌, ◌≤◌, ◌≡◌, ◌≢◌, true, false, List, [], ◌∷◌, Ok}
use Rattle.runs.specs.Runs.{after}
use Rattle.wire.specs.Requests.{decode}
use Rattle.table.specs.Table.{wrong}
use Rattle.wire.specs.declared.Request.{Request}
use Rattle.wire.specs.declared.Request.TheVariants.{Begin}
use Rattle.wire.specs.declared.Reason.{Reason}
use Rattle.wire.specs.declared.Reason.TheVariants.{Yield}
use Rattle.wire.specs.declared.Answer.{Answer}
use Rattle.wire.specs.declared.Answer.TheVariants.{Opened, Aborted}
use Rattle.desks.specs.Desks.{is_open, ageless}
use Rattle.board.specs.Rules.{desk_at, next, reply}
use Rattle.board.specs.Opening.{opening}
use Rattle.demands.specs.Demands.{is_from}
use Rattle.demands.specs.Waiting.{Older}
use Rattle.board.specs.declared.Board.{Board}

-- Each is said of a run from s on any board, which `board` tells, and then of every run on the board of the rules.

-- ---- an aborted desk keeps its age

-- none of them is a request of desk d
abbrev pub NoneFrom : ℕ → List (List ℕ) → Type 0
NoneFrom d [] = Unit {0}
NoneFrom d (q ∷ qs) = (is_from (decode q) d ≡ false) × NoneFrom d qs

-- at any place: request q aborts desk d, for whatever reason; other desks go on as they like; desk d begins again.
-- It is opened with the age that it had, also after age 2,000 was given
abbrev pub RunKeepsItsAge : {S : Type 0} → (S → Board) → (S → List ℕ → S) → (S → List ℕ → Answer) → S → Type 0
RunKeepsItsAge board next reply s =
    (before : List (List ℕ)) (q : List ℕ) (later : List (List ℕ)) (again : List ℕ) (d : ℕ) (r : Request) (w : Reason)
    → let at = after next s before in
    let then = after next (next at q) later in
    decode q ≡ Ok (d, r) → reply at q ≡ Aborted w → NoneFrom d later → decode again ≡ Ok (d, Begin)
    → reply then again ≡ Opened (desk_at (board at) d).age (board then).number

abbrev pub KeepsItsAge : Type 0
KeepsItsAge = (table : List ℕ) → wrong table ≡ false → RunKeepsItsAge (λ b. b) next reply (opening table)

-- ---- nobody becomes older than a desk that keeps its age

-- from board b to board c: if desk d has the age that it had, who is older than it then, open or idle, was so before
abbrev pub OlderBefore : Board → Board → ℕ → ℕ → Type 0
OlderBefore b c d e =
    (desk_at c d).age ≡ (desk_at b d).age → ageless (desk_at c e) ≡ false → Older c e d → (ageless (desk_at b e) ≡ false) × Older b e d

-- at any place, whatever is asked: so those that are older than a desk only become fewer while it has its age
abbrev pub RunNoneBecomesOlder : {S : Type 0} → (S → Board) → (S → List ℕ → S) → S → Type 0
RunNoneBecomesOlder board next s =
    (before : List (List ℕ)) (q : List ℕ) (d e : ℕ) → let at = after next s before in OlderBefore (board at) (board (next at q)) d e

abbrev pub NoneBecomesOlder : Type 0
NoneBecomesOlder = (table : List ℕ) → wrong table ≡ false → RunNoneBecomesOlder (λ b. b) next (opening table)

-- ---- the oldest of the open desks is never made to yield

-- no open desk is older than desk d
abbrev pub NoneOlder : Board → ℕ → Type 0
NoneOlder b d = (e : ℕ) → e < 16 → is_open (desk_at b e) ≡ true → (desk_at b d).age.0 ≤ (desk_at b e).age.0

abbrev pub RunOldestNeverYields : {S : Type 0} → (S → Board) → (S → List ℕ → S) → (S → List ℕ → Answer) → S → Type 0
RunOldestNeverYields board next reply s =
    (before : List (List ℕ)) (q : List ℕ) (d : ℕ) (r : Request)
    → let at = after next s before in
    decode q ≡ Ok (d, r) → NoneOlder (board at) d → (i e : ℕ) → reply at q ≢ Aborted (Yield i e)

abbrev pub OldestNeverYields : Type 0
OldestNeverYields = (table : List ℕ) → wrong table ≡ false → RunOldestNeverYields (λ b. b) next reply (opening table)
