-- The end of a transaction: what validation lets pass relies on nothing stale, and the write sets kept go on.
use mathlib.Core.Path.{◌≡◌, refl, subst, sym, ◌∙◌}
use mathlib.Core.Logic.{◌≢◌}
use mathlib.Core.Bool.{Bool, true, false}
use mathlib.Core.List.{List, [], ◌∷◌}
use Prim.Native.Nat.{ℕ, ◌+◌, ◌%◌, ◌<◌, ◌≤◌}
use native.Mathlib.Nat.{mod-lt, zero-lt-suc}
use native.Mathlib.Omega.{arith}
use lib.ListN.{get_or, set, length}
use lib.Seq.{get_or-set_same, get_or-set_other}
use Rattle.items.specs.Items.{has, none}
use Rattle.items.proofs.Tests.{by_test, by_cond, by_equal}
use Rattle.counters.specs.declared.Number.{Number}
use Rattle.runs.specs.Replay.{Transaction}
use Rattle.runs.proofs.Since.{wrote_by, wrote_by_new, wrote_by_old, since_old, since_new, since_none}
use Rattle.board.specs.Rules.{desk_at, is_guarded, write_set, committed}
use Rattle.demands.specs.History.{History, log_of}
use Rattle.desks.specs.declared.Desk.{Desk}
use Rattle.board.specs.declared.Board.{Board}
use Rattle.board.proofs.Granted.{MayCommit}
use Rattle.board.proofs.Sound.{Sound}
use Rattle.demands.proofs.Invariant.{relies, overwritten, Did, Inv}
use Rattle.demands.proofs.Commit.{commit_ledger, locked_unwritten, commit_accounts}

other_place : (m n : ℕ) → m < n → n < m + 16 → m % 16 ≢ n % 16
other_place m n l h = omega arith

module _ {opening : List ℕ} {b : Board} {h : History} (inv : Inv opening b h) (d : ℕ) (hd : d < 16) (n : Number) (may : MayCommit b d n.0) where
  k : Desk
  k = desk_at b d

  new : Transaction
  new = record { number = n.0; ops = log_of h d }

  did : Did b.values b.guarded (overwritten b.guarded h.done) k (log_of h d)
  unfolding k
  did = inv.accounts.did d hd

  counted : length h.done ≡ b.number.0
  counted = inv.ledger.counted

  -- nothing that it relies on is stale
  valid : (i : ℕ) → i < 64 → relies b.guarded k i ≡ true → overwritten b.guarded h.done k.start.0 i ≡ false
  unfolding k
  valid i hi r =
      by_cond (λ (x : Bool). x ≡ false) (is_guarded b i) (λ g. refl)
      (λ g.
      since_none k.start.0 h.done i
      (λ m s e.
      let e' : m ≤ b.number.0 = rw (← counted) e in
      let c : (b.number.0 < m + 16) × (has (write_set b.sets m) i ≡ false) = may.current i m hi (rw g at r) s e' in
      sym (inv.kept m i e' c.0) ∙ c.1))

  -- what it writes is stale for those who have read it
  stays :
      (e : ℕ) → e < 16 → e ≢ d → (i : ℕ) → overwritten b.guarded (new ∷ h.done) (desk_at b e).start.0 i ≡ false → relies b.guarded (desk_at b e) i ≡ true
      → (overwritten b.guarded h.done (desk_at b e).start.0 i ≡ false) × (has (desk_at b d).written i ≡ false)
  unfolding k new
  stays e he q i s r =
      by_test (is_guarded b i)
      (λ g. (rw g refl, locked_unwritten inv.accounts inv.sound.desks.sixteen inv.sound.desks.locks d hd e he q i g r))
      (λ g. (
        rw g (since_old start new h.done i (rw g at s)),
        sym (did.puts i) ∙ since_new start new h.done i (rw counted (inv.sound.desks.each e he).started) (rw g at s),
      ))
    where
      start : ℕ
      start = (desk_at b e).start.0

  kept_now : (m i : ℕ) → m ≤ n.0 → n.0 < m + 16 → has (get_or (set b.sets (n.0 % 16) k.written) (m % 16) none) i ≡ wrote_by m (new ∷ h.done) i
  unfolding k new
  kept_now m i e s =
      by_equal m n.0
      (λ q.
      subst (λ (x : ℕ). has (get_or (set b.sets (n.0 % 16) k.written) (x % 16) none) i ≡ wrote_by x (new ∷ h.done) i) (sym q)
      (rw (get_or-set_same b.sets (n.0 % 16) k.written none (rw inv.sound.sets (mod-lt n.0 (zero-lt-suc 15))))
      (sym (did.puts i) ∙ sym (wrote_by_new new h.done n.0 i (may.next ∙ rw counted refl)))))
      (λ q.
      let older : m ≤ b.number.0 = omega (arith, may.next) in
      rw (get_or-set_other b.sets (n.0 % 16) (m % 16) k.written none (other_place m n.0 (omega arith) s))
      (inv.kept m i older (omega (arith, may.next)) ∙ sym (wrote_by_old new h.done m i (rw counted older))))

  pub step_commit :
      Sound (committed b d n)
      → Inv opening (committed b d n) (record { logs = set h.logs d []; done = record { number = n.0; ops = log_of h d } ∷ h.done })
  unfolding k new
  step_commit sound =
      record {
        sound = sound;
        ledger = commit_ledger b.guarded (overwritten b.guarded h.done) k inv.sound.values inv.ledger did valid n.0 may.next;
        kept = kept_now;
        accounts = commit_accounts inv.accounts inv.sound.desks.sixteen inv.sound.desks.locks d hd stays;
      }
