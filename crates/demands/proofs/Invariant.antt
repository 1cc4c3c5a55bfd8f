-- What holds of a board and of the history told so far.
--   Accounts  of the desks: their records agree with their logs
--   Ledger    of the values: they are those of the replay so far
--   Inv       of the whole: both, and the write sets kept
-- Accounts and Ledger know nothing of validation: what counts as stale is a parameter of Accounts.
use mathlib.Core.Path.{◌≡◌, ◌∙◌}
use mathlib.Core.Logic.{◌≢◌}
use mathlib.Core.Bool.{Bool, false, cond}
use mathlib.Core.List.{List, []}
use Prim.Native.Nat.{ℕ, ◌+◌, ◌<◌, ◌≤◌}
use lib.ListN.{get_or, set, length, length-set}
use lib.Seq.{get_or-set_same, get_or-set_other}
use Rattle.items.specs.Items.{has}
use Rattle.items.specs.declared.Items.{Items}
use Rattle.items.proofs.Tests.{by_equal}
use Rattle.runs.specs.Replay.{Op, Transaction, replayed_all, Serial, Numbered}
use Rattle.runs.proofs.Account.{Account}
use Rattle.runs.proofs.Since.{since, wrote_by}
use Rattle.counters.specs.declared.Age.{Age}
use Rattle.desks.specs.Desks.{beyond, desk_in, copy_of}
use Rattle.board.specs.Rules.{write_set, with_age, with_desks}
use Rattle.demands.specs.History.{History}
use Rattle.desks.specs.declared.Desk.{Desk}
use Rattle.board.specs.declared.Board.{Board}
use Rattle.board.proofs.Desks.{holds}
use Rattle.board.proofs.Sound.{Sound}

-- ---- the desks

-- what desk k relies on: the guarded items that it holds and the open items in its read set
abbrev pub relies : Items → Desk → ℕ → Bool
relies guarded k i = cond (has guarded i) (holds k i) (has k.read i)

-- desk k has done what l tells
abbrev pub Did : List ℕ → Items → (ℕ → ℕ → Bool) → Desk → List Op → Type 0
Did values guarded stale k l =
    Account (λ i. get_or values i 0) (relies guarded k) (stale k.start.0) (has k.written) (copy_of k) l

pub record Accounts (values : List ℕ) (guarded : Items) (stale : ℕ → ℕ → Bool) (desks : List Desk) (logs : List (List Op)) : Type 0 where
  pub has_logs : length logs ≡ 16
  pub did : (e : ℕ) → e < 16 → Did values guarded stale (desk_in desks e) (get_or logs e [])

-- one desk's record and log change; the others may come to see other values and stale items
pub accounts_set :
    {values values' : List ℕ} {guarded : Items} {stale stale' : ℕ → ℕ → Bool} {desks : List Desk} {logs : List (List Op)}
    → Accounts values guarded stale desks logs → length desks ≡ 16
    → (d : ℕ) → d < 16 → (k : Desk) (l : List Op) → Did values' guarded stale' k l
    → ((e : ℕ) → e < 16 → e ≢ d → Did values' guarded stale' (desk_in desks e) (get_or logs e []))
    → Accounts values' guarded stale' (set desks d k) (set logs d l)
accounts_set {desks = desks} {logs = logs} accounts sixteen d hd k l new others =
    record {
      has_logs = length-set logs d l ∙ accounts.has_logs;
      did =
          λ e he.
          by_equal e d
          (λ q. rw (q, get_or-set_same desks d k beyond (rw sixteen hd), get_or-set_same logs d l [] (rw accounts.has_logs hd)) new)
          (λ n. rw (get_or-set_other desks d e k beyond n, get_or-set_other logs d e l [] n) (others e he n));
    }

-- ---- what is committed

-- the replay so far
pub record Ledger (opening values : List ℕ) (number : ℕ) (done : List Transaction) : Type 0 where
  pub numbered : Numbered done
  pub serial : Serial opening done
  pub same : replayed_all opening done ≡ values
  pub counted : length done ≡ number

-- ---- the whole

-- an open item that was written above number s
abbrev pub overwritten : Items → List Transaction → ℕ → ℕ → Bool
overwritten guarded done s i = cond (has guarded i) false (since s done i)

pub record Inv (opening : List ℕ) (b : Board) (h : History) : Type 0 where
  pub sound : Sound b
  pub ledger : Ledger opening b.values b.number.0 h.done
  pub kept : (n i : ℕ) → n ≤ b.number.0 → b.number.0 < n + 16 → has (write_set b.sets n) i ≡ wrote_by n h.done i
  pub accounts : Accounts b.values b.guarded (overwritten b.guarded h.done) b.desks h.logs

-- the desks change, and nothing is committed
pub reseated :
    {opening : List ℕ} {b : Board} {h : History} → Inv opening b h → {a : Age} {desks : List Desk} {logs : List (List Op)}
    → Sound (with_desks (with_age b a) desks)
    → Accounts b.values b.guarded (overwritten b.guarded h.done) desks logs
    → Inv opening (with_desks (with_age b a) desks) (record { logs = logs; done = h.done })
reseated inv sound accounts = record { sound = sound; ledger = inv.ledger; kept = inv.kept; accounts = accounts }
