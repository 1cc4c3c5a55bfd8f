-- Whom a desk waits for, or yields to: the first number of a wait and of a yield is the desk of lowest age among the conflicting holders.
use Rattle.std.specs.Prelude.{ℕ, ◌<◌, ◌≡◌, ◌≢◌, Bool, true, false, List, Ok}
use Rattle.runs.specs.Runs.{after}
use Rattle.wire.specs.Requests.{decode}
use Rattle.table.specs.Table.{wrong}
use Rattle.wire.specs.declared.Request.{Request}
use Rattle.wire.specs.declared.Request.TheVariants.{Begin, Read, Write, End, Abandon}
use Rattle.wire.specs.declared.Reason.{Reason}
use Rattle.wire.specs.declared.Reason.TheVariants.{Overwritten, TooOld, Yield}
use Rattle.wire.specs.declared.Answer.{Answer}
use Rattle.wire.specs.declared.Answer.TheVariants.{Refused, Opened, Value, Stored, Wait, Committed, Abandoned, Aborted}
use Rattle.desks.specs.Desks.{in_the_way}
use Rattle.board.specs.Rules.{desk_at, next, reply}
use Rattle.board.specs.Opening.{opening}
use Rattle.demands.specs.Demands.{names}
use Rattle.board.specs.declared.Board.{Board}

-- desk e is a conflicting holder for request r of desk d
abbrev pub conflicting : Board → ℕ → Request → ℕ → Bool
conflicting b d Begin e = false
conflicting b d (Read i) e = in_the_way b.desks b.guarded d i false e
conflicting b d (Write i v) e = in_the_way b.desks b.guarded d i true e
conflicting b d End e = false
conflicting b d Abandon e = false

-- desk d is older than desk e: it has the lower age
abbrev pub Older : Board → ℕ → ℕ → Type 0
Older b d e = (desk_at b d).age.0 < (desk_at b e).age.0

-- r names item i, where desk e is a conflicting holder and older than every other one
pub record OldestHolder (b : Board) (d : ℕ) (r : Request) (i e : ℕ) : Type 0 where
  pub item : names r i ≡ true
  pub desk : e < 16
  pub holds : conflicting b d r e ≡ true
  pub oldest : (f : ℕ) → f < 16 → conflicting b d r f ≡ true → f ≢ e → Older b e f

-- a yield names a holder older than the desk that asks
abbrev pub NamesWhy : Board → ℕ → Request → Reason → Type 0
NamesWhy b d r (Overwritten i n) = Unit {0}
NamesWhy b d r (TooOld s) = Unit {0}
NamesWhy b d r (Yield i e) = OldestHolder b d r i e × Older b e d

-- a wait names one that is younger, and so is each other
abbrev pub NamesHolder : Board → ℕ → Request → Answer → Type 0
NamesHolder b d r (Refused n) = Unit {0}
NamesHolder b d r (Opened a s) = Unit {0}
NamesHolder b d r (Value i v) = Unit {0}
NamesHolder b d r (Stored i) = Unit {0}
NamesHolder b d r (Wait i e) = OldestHolder b d r i e × Older b d e
NamesHolder b d r (Committed n) = Unit {0}
NamesHolder b d r Abandoned = Unit {0}
NamesHolder b d r (Aborted w) = NamesWhy b d r w

-- of a run from s on any board, which `board` tells: of every request q, at any place of it
abbrev pub RunNamesTheOldest : {S : Type 0} → (S → Board) → (S → List ℕ → S) → (S → List ℕ → Answer) → S → Type 0
RunNamesTheOldest board next reply s =
    (before : List (List ℕ)) (q : List ℕ) (d : ℕ) (r : Request)
    → let at = after next s before in
    decode q ≡ Ok (d, r) → NamesHolder (board at) d r (reply at q)

abbrev pub NamesTheOldest : Type 0
NamesTheOldest = (table : List ℕ) → wrong table ≡ false → RunNamesTheOldest (λ b. b) next reply (opening table)
