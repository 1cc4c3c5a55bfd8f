-- A commit that installs the copies and frees the desk: where nothing stale was relied on, the log fits the values and leaves those installed;
-- and the other desks' accounts hold on, where what they rely on is not written or counts as stale from now on.
use mathlib.Core.Path.{◌≡◌, refl, sym, ◌∙◌}
use mathlib.Core.Logic.{◌≢◌}
use mathlib.Core.Bool.{Bool, true, false}
use mathlib.Core.List.{List, [], ◌∷◌}
use Prim.Native.Nat.{ℕ, ◌+◌, ◌<◌}
use native.Mathlib.Omega.{arith}
use lib.ListN.{get_or, set, length}
use lib.Seq.{ext_get_or}
use Rattle.items.specs.Items.{has}
use Rattle.items.specs.declared.Items.{Items}
use Rattle.items.proofs.Tests.{by_test, clash}
use Rattle.runs.specs.Replay.{Op, Transaction, replayed, Fits}
use Rattle.runs.proofs.Log.{replayed_at, replayed-length, fits}
use Rattle.runs.proofs.Account.{account_none, account_moved, account_fits}
use Rattle.items.proofs.Laws.{has-none}
use Rattle.counters.specs.Counters.{no_age}
use Rattle.desks.specs.Desks.{idle, desk_in, copy_of}
use Rattle.board.specs.Rules.{installed}
use Rattle.desks.specs.declared.Desk.{Desk}
use Rattle.board.proofs.Filled.{filled-length, filled_other, filled_at}
use Rattle.board.proofs.Desks.{Locks}
use Rattle.demands.proofs.Invariant.{relies, Did, Accounts, accounts_set, Ledger}

-- the values after desk k's commit
abbrev after : Desk → List ℕ → List ℕ
after k values = installed k.written (copy_of k) values

-- ---- the desk that commits

module _ {opening values : List ℕ} {number : ℕ} {done : List Transaction} {l : List Op} (guarded : Items) (stale : ℕ → ℕ → Bool) (k : Desk)
    (long : length values ≡ 64) (ledger : Ledger opening values number done) (did : Did values guarded stale k l) where
  leaves : replayed values l ≡ after k values
  leaves =
      ext_get_or 0 (replayed values l) (after k values)
      (replayed-length values l ∙ sym (filled-length (has k.written) (copy_of k) 64 values))
      (λ i hi.
      let hi' : i < length values = rw replayed-length at hi in
      replayed_at values l i hi' ∙ did.last i (get_or values i 0)
      ∙ sym (filled_at (has k.written) (copy_of k) 64 values i (rw (← long) hi') hi'))

  -- where nothing that it relies on is stale
  pub commit_ledger :
      ((i : ℕ) → i < 64 → relies guarded k i ≡ true → stale k.start.0 i ≡ false)
      → (n : ℕ) → n ≡ number + 1
      → Ledger opening (after k values) n (record { number = n; ops = l } ∷ done)
  commit_ledger sound n next =
      record {
        numbered = (next ∙ rw ledger.counted refl, ledger.numbered);
        serial = (rw ledger.same fits_now, ledger.serial);
        same = rw ledger.same leaves;
        counted = omega (arith, next, ledger.counted);
      }
    where
      fits_now : Fits values l
      fits_now = fits values l (rw long did.in_range) (λ i hi. account_fits did i (sound i (rw long at hi)))

-- ---- the other desks

module _ {values : List ℕ} {guarded : Items} {stale : ℕ → ℕ → Bool} {desks : List Desk} {logs : List (List Op)}
    (accounts : Accounts values guarded stale desks logs) (sixteen : length desks ≡ 16) (locks : Locks guarded desks) (d : ℕ) (hd : d < 16) where
  abbrev k : Desk
  k = desk_in desks d

  -- a guarded item on which another desk relies is not written
  pub locked_unwritten :
      (e : ℕ) → e < 16 → e ≢ d → (i : ℕ) → has guarded i ≡ true → relies guarded (desk_in desks e) i ≡ true → has k.written i ≡ false
  locked_unwritten e he n i g r =
      by_test (has k.written i) (λ w. clash (rw g at r) (locks d e hd he (λ q. n (sym q)) i g w)) (λ f. f)

  pub commit_accounts :
      {stale' : ℕ → ℕ → Bool}
      → ((e : ℕ) → e < 16 → e ≢ d → (i : ℕ) → stale' (desk_in desks e).start.0 i ≡ false → relies guarded (desk_in desks e) i ≡ true
      → (stale (desk_in desks e).start.0 i ≡ false) × (has k.written i ≡ false))
      → Accounts (after k values) guarded stale' (set desks d (idle no_age)) (set logs d [])
  commit_accounts stays =
      accounts_set accounts sixteen d hd (idle no_age) [] (account_none has-none)
      (λ e he n.
      account_moved (accounts.did e he) (λ i r. r)
      (λ i s r.
      let u : (stale (desk_in desks e).start.0 i ≡ false) × (has k.written i ≡ false) = stays e he n i s r in
      (u.0, filled_other (has k.written) (copy_of k) 64 values i (λ l. u.1))))
