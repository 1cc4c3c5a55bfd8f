-- What one desk does keeps the accounts: a desk set anew, a read, a write.
use mathlib.Core.Path.{◌≡◌, refl, sym, ◌∙◌}
use mathlib.Core.Bool.{Bool, true, false, cond, not, ◌&&◌}
use mathlib.Core.List.{List, [], ◌∷◌}
use Prim.Native.Nat.{ℕ, ◌<◌}
use lib.ListN.{get_or, set, replicate, get_or-replicate}
use lib.Seq.{get_or-set_same, get_or-set_other}
use Rattle.items.specs.Items.{has, with}
use Rattle.items.specs.declared.Items.{Items}
use Rattle.items.proofs.Tests.{by_test, by_cond, by_equal, clash, or_left, or_right, or_both}
use Rattle.items.proofs.Laws.{has-none, with_same, with_other, with_less}
use Rattle.counters.specs.Counters.{no_age}
use Rattle.counters.specs.declared.Age.{Age}
use Rattle.counters.specs.declared.Number.{Number}
use Rattle.runs.specs.Replay.{Op, got, put}
use Rattle.runs.proofs.Account.{account_none, account_got, account_put}
use Rattle.desks.specs.Desks.{blank, idle, beyond}
use Rattle.board.specs.Rules.{reading, writing, desk_at, is_guarded}
use Rattle.desks.specs.declared.Desk.{Desk}
use Rattle.board.specs.declared.Board.{Board}
use Rattle.board.proofs.Desks.{holds}
use Rattle.board.proofs.Granted.{MayRead, MayWrite}
use Rattle.board.proofs.Desks.{writing_holds}
use Rattle.board.proofs.Sound.{Sound}
use Rattle.demands.proofs.Invariant.{relies, Did, Accounts, accounts_set}

-- ---- all desks idle

pub opening_accounts : (values : List ℕ) (guarded : Items) (stale : ℕ → ℕ → Bool) → Accounts values guarded stale (replicate 16 (idle no_age)) (replicate 16 [])
opening_accounts values guarded stale =
    record {
      has_logs = refl;
      did =
          λ e he. rw (get_or-replicate 16 e (idle no_age) beyond he, get_or-replicate {A = List Op} 16 e [] [] he) (account_none has-none);
    }

-- ---- what a desk relies on grows

-- what k relies on, m relies on
abbrev Grows : Items → Desk → Desk → Type 0
Grows guarded k m = (j : ℕ) → relies guarded m j ≡ false → relies guarded k j ≡ false

grows :
    (guarded : Items) (k m : Desk)
    → ((j : ℕ) → has m.read j ≡ false → has k.read j ≡ false)
    → ((j : ℕ) → holds m j ≡ false → holds k j ≡ false)
    → Grows guarded k m
grows guarded k m r s j =
    by_cond (λ (t : Bool). cond (has guarded j) (holds m j) (has m.read j) ≡ false → t ≡ false) (has guarded j)
    (λ g e. s j (rw g at e)) (λ g e. r j (rw g at e))

module _ (guarded : Items) (k : Desk) (i : ℕ) where
  abbrev after : Desk
  after = reading k i (has guarded i)

  reading_read : (j : ℕ) → has after.read j ≡ false → has k.read j ≡ false
  reading_read j =
      by_cond (λ (s : Items). has s j ≡ false → has k.read j ≡ false) (has guarded i) (λ g e. e) (λ g e. with_less k.read i j e)

  reading_shared : (j : ℕ) → has after.shared j ≡ false → has k.shared j ≡ false
  reading_shared j =
      by_cond (λ (s : Items). has s j ≡ false → has k.shared j ≡ false) (has guarded i && not (has k.written i))
      (λ g e. with_less k.shared i j e) (λ g e. e)

  reading_grows : Grows guarded k after
  reading_grows =
      grows guarded k after reading_read
      (λ j e. or_both (has k.written j) (has k.shared j) (or_left _ _ e) (reading_shared j (or_right (has k.written j) _ e)))

  reading_relies : relies guarded after i ≡ true
  reading_relies =
      by_test (has guarded i)
      (λ g. rw g (by_test (has k.written i) (λ w. rw w) (λ w. rw w (with_same k.shared i))))
      (λ g. rw g (with_same k.read i))

writing_grows : (guarded : Items) (k : Desk) (i v : ℕ) → Grows guarded k (writing k i v)
writing_grows guarded k i v =
    grows guarded k (writing k i v) (λ j e. e)
    (λ j e.
    by_equal j i
    (λ q. clash (with_same k.written i) (rw q at (or_left (has (with k.written i) j) _ e)))
    (λ n. sym (writing_holds guarded k i v j n) ∙ e))

-- ---- the steps of one desk

module _ {b : Board} (sound : Sound b) {stale : ℕ → ℕ → Bool} {logs : List (List Op)} (accounts : Accounts b.values b.guarded stale b.desks logs)
    (d : ℕ) (hd : d < 16) where
  abbrev k : Desk
  k = desk_at b d

  -- after it, with desk d's record and log as given
  abbrev Next : Desk → List Op → Type 0
  Next k l = Accounts b.values b.guarded stale (set b.desks d k) (set logs d l)

  next : (k : Desk) (l : List Op) → Did b.values b.guarded stale k l → Next k l
  next k l new = accounts_set accounts sound.desks.sixteen d hd k l new (λ e he n. accounts.did e he)

  -- a desk set anew, with nothing done
  pub step-blank : (o : ℕ) (a : Age) (s : Number) → Next (blank o a s) []
  step-blank o a s = next (blank o a s) [] (account_none has-none)

  pub step_read : (i v : ℕ) → MayRead b d i v → Next (reading k i (is_guarded b i)) (got i v ∷ get_or logs d [])
  step_read i v may =
      next (reading k i (is_guarded b i)) (got i v ∷ get_or logs d [])
      (account_got (accounts.did d hd) i v may.item may.given (reading_relies b.guarded k i) (reading_grows b.guarded k i))

  pub step-write : (i v : ℕ) → MayWrite b d i → Next (writing k i v) (put i v ∷ get_or logs d [])
  step-write i v may =
      next (writing k i v) (put i v ∷ get_or logs d [])
      (account_put (accounts.did d hd) i v may.item (with_same k.written i)
      (get_or-set_same k.copies i v 0 (rw (sound.desks.each d hd).room may.item))
      (with_other k.written i) (λ j n. get_or-set_other k.copies i j v 0 n)
      (writing_grows b.guarded k i v))
