-- The second demand: every run from an opening replays.
use mathlib.Core.Path.{refl}
use mathlib.Core.List.{List, [], ◌∷◌}
use Prim.Native.Nat.{ℕ, ◌%◌, ◌<◌}
use native.Mathlib.Nat.{mod-lt, zero-lt-suc}
use lib.ListN.{get_or-replicate}
use Rattle.items.specs.Items.{none}
use Rattle.items.proofs.Laws.{has-none}
use Rattle.runs.specs.Runs.{after, answers}
use Rattle.wire.specs.Requests.{Decoded, decode, desk_of, value_of}
use Rattle.wire.specs.declared.Answer.{Answer}
use Rattle.wire.specs.declared.Answer.TheVariants.{Refused, Opened, Value, Stored, Wait, Committed, Abandoned, Aborted}
use Rattle.counters.specs.Counters.{no_age, no_number}
use Rattle.board.specs.Rules.{desk_at, answer, follow, step, next, reply}
use Rattle.board.specs.Opening.{opening}
use Rattle.demands.specs.History.{History, nothing, told, history_from}
use Rattle.demands.specs.Demands.{Replays}
use Rattle.board.specs.declared.Board.{Board}
use Rattle.board.proofs.Granted.{Granted, answer-granted}
use Rattle.board.proofs.Bounds.{desk_low}
use Rattle.board.proofs.Sound.{opening_sound, follow_sound}
use Rattle.demands.proofs.Invariant.{overwritten, Inv, reseated}
use Rattle.demands.proofs.Steps.{opening_accounts, step-blank, step_read, step-write}
use Rattle.demands.proofs.Ending.{step_commit}

-- ---- one request

module _ {values : List ℕ} {b : Board} {h : History} (inv : Inv values b h) where
  -- by the answer
  follow_keeps : (q : Decoded) → desk_of q < 16 → (a : Answer) → Granted b (desk_of q) a → Inv values (follow b q a) (told h q a)
  unfolding follow
  follow_keeps q hd (Refused n) may = inv
  follow_keeps q hd (Opened a s) may =
      reseated inv (follow_sound inv.sound q hd (Opened a s) may) (step-blank inv.sound inv.accounts (desk_of q) hd 1 a s)
  follow_keeps q hd (Value i v) may =
      reseated inv (follow_sound inv.sound q hd (Value i v) may) (step_read inv.sound inv.accounts (desk_of q) hd i v may)
  follow_keeps q hd (Stored i) may =
      reseated inv (follow_sound inv.sound q hd (Stored i) may) (step-write inv.sound inv.accounts (desk_of q) hd i (value_of q) may)
  follow_keeps q hd (Wait i e) may = inv
  follow_keeps q hd (Committed n) may = step_commit inv (desk_of q) hd n may (follow_sound inv.sound q hd (Committed n) may)
  follow_keeps q hd Abandoned may =
      reseated inv (follow_sound inv.sound q hd Abandoned may) (step-blank inv.sound inv.accounts (desk_of q) hd 0 no_age no_number)
  follow_keeps q hd (Aborted w) may =
      reseated inv (follow_sound inv.sound q hd (Aborted w) may) (step-blank inv.sound inv.accounts (desk_of q) hd 0 (desk_at b (desk_of q)).age no_number)

  step_keeps : (q : List ℕ) → Inv values (next b q) (told h (decode q) (reply b q))
  unfolding step
  step_keeps q = follow_keeps (decode q) (desk_low q) (answer b (decode q)) (answer-granted b (decode q))

-- ---- a run

opening_inv : (t : List ℕ) → Inv (opening t).values (opening t) nothing
unfolding opening
opening_inv t =
    record {
      sound = opening_sound t;
      ledger = record { numbered = tt; serial = tt; same = refl; counted = refl };
      kept = λ n i e s. rw (get_or-replicate 16 (n % 16) none none (mod-lt n (zero-lt-suc 15))) (has-none i);
      accounts = opening_accounts (opening t).values (opening t).guarded (overwritten (opening t).guarded []);
    }

run_keeps :
    {values : List ℕ} (b : Board) (h : History) → Inv values b h → (qs : List (List ℕ))
    → Inv values (after next b qs) (history_from h qs (answers next reply b qs))
run_keeps b h inv [] = inv
run_keeps b h inv (q ∷ qs) = run_keeps (next b q) (told h (decode q) (reply b q)) (step_keeps inv q) qs

pub replays : Replays
replays t right qs =
    let end = run_keeps (opening t) nothing (opening_inv t) qs in
    record { numbered = end.ledger.numbered; serial = end.ledger.serial; same = end.ledger.same }
