-- Whom a desk waits for and what its age is worth to it: the board is one that a run without a journal leaves, and answers as it does there.
use Prim.Native.Nat.{ℕ}
use mathlib.Core.Path.{◌≡◌, refl, sym, ap, ◌∙◌, subst}
use mathlib.Core.Logic.{◌≢◌}
use mathlib.Core.Bool.{false}
use mathlib.Core.List.{List, [], ◌∷◌}
use Rattle.items.proofs.Tests.{by_test, by_cond, clash}
use Rattle.runs.specs.Runs.{after}
use Rattle.wire.specs.declared.Reason.{Reason}
use Rattle.wire.specs.declared.Reason.TheVariants.{Yield}
use Rattle.wire.specs.declared.Answer.{Answer}
use Rattle.wire.specs.declared.Answer.TheVariants.{Refused, Opened, Aborted}
use Rattle.board.specs.Rules as Rules
use Rattle.board.specs.Rules.{desk_at}
use Rattle.board.specs.Opening.{opening}
use Rattle.board.specs.declared.Board.{Board}
use Rattle.demands.specs.Demands.{changes_nothing}
use Rattle.demands.specs.Waiting.{NamesHolder}
use Rattle.demands.specs.Keeping.{NoneFrom, OlderBefore, NoneOlder}
use Rattle.demands.proofs.Named as Named
use Rattle.demands.proofs.Aging as Aging
use Rattle.journal.specs.Journal.{commits, Ledger, opened, next, reply}
use Rattle.recovery.specs.Journaled.{lacks_room, NamesTheOldest, KeepsItsAge, NoneBecomesOlder, OldestNeverYields}
use Rattle.recovery.proofs.Step.{reply_ways, reply_lacks, next_lacks, reply_roomy, reply_silent, board_roomy}
use Rattle.recovery.proofs.Heard.{heard, heard_board}

-- a refusal is no abort
not_aborted : (n : ℕ) (w : Reason) → Refused n ≢ Aborted w
not_aborted n w e = clash refl (ap changes_nothing e)

-- the board after any run is one that a run without a journal leaves
module _ (t journal : List ℕ) (before : List (List ℕ)) where
  abbrev ledger : Ledger
  ledger = after next (opened t journal) before

  as_without : (P : Board → Type 0) → ((hs : List (List ℕ)) → P (after Rules.next (opening t) hs)) → P ledger.kept.board
  as_without P said = subst P (sym (heard_board (opened t journal) before)) (said (heard (opened t journal) before))

pub names_the_oldest : NamesTheOldest
names_the_oldest t right journal before q d r asked =
    let l = ledger t journal before in
    reply_ways l q (NamesHolder l.kept.board d r)
    (as_without t journal before (λ (b : Board). NamesHolder b d r (Rules.reply b q)) (λ hs. Named.names_the_oldest t right hs q d r asked)) tt

pub oldest_never_yields : OldestNeverYields
oldest_never_yields t right journal before q d r asked none i e =
    let l = ledger t journal before in
    reply_ways l q (λ (a : Answer). a ≢ Aborted (Yield i e))
    (as_without t journal before (λ (b : Board). NoneOlder b d → Rules.reply b q ≢ Aborted (Yield i e))
    (λ hs older. Aging.oldest_never_yields t right hs q d r asked older i e) none)
    (not_aborted 15 (Yield i e))

-- ---- an aborted desk

-- an abort found room, since it needs none
aborted_roomy : (l : Ledger) (q : List ℕ) (w : Reason) → reply l q ≡ Aborted w → lacks_room l q ≡ false
aborted_roomy l q w aborted =
    by_test (lacks_room l q) (λ t. absurd (not_aborted 15 w (sym (reply_lacks l q t) ∙ aborted))) (λ f. f)

heard_none : (d : ℕ) (l : Ledger) (qs : List (List ℕ)) → NoneFrom d qs → NoneFrom d (heard l qs)
heard_none d l [] n = tt
heard_none d l (q ∷ qs) n =
    by_cond (NoneFrom d) (lacks_room l q) (λ t. heard_none d (next l q) qs n.1) (λ f. (n.0, heard_none d (next l q) qs n.1))

pub keeps_its_age : KeepsItsAge
keeps_its_age t right journal before q later again d r w asked aborted others begin =
    let l = ledger t journal before in
    let m = after next (next l q) later in
    let hs = heard (next l q) later in
    let roomy = aborted_roomy l q w aborted in
    let left : m.kept.board ≡ after Rules.next (Rules.next l.kept.board q) hs =
    heard_board (next l q) later ∙ ap (λ (b : Board). after Rules.next b hs) (board_roomy l q roomy) in
    let own : Rules.reply m.kept.board again ≡ Opened (desk_at l.kept.board d).age m.kept.board.number =
    subst (λ (b : Board). Rules.reply b again ≡ Opened (desk_at l.kept.board d).age b.number) (sym left)
    (as_without t journal before
    (λ (b : Board).
    Rules.reply b q ≡ Aborted w
    → Rules.reply (after Rules.next (Rules.next b q) hs) again ≡ Opened (desk_at b d).age (after Rules.next (Rules.next b q) hs).number)
    (λ gs gone. Aging.keeps_its_age t right gs q hs again d r w asked gone (heard_none d (next l q) later others) begin)
    (sym (reply_roomy l q roomy) ∙ aborted)) in
    reply_silent m again (ap commits own) ∙ own

-- ---- who is older

pub none_becomes_older : NoneBecomesOlder
none_becomes_older t right journal before q d e =
    let l = ledger t journal before in
    by_test (lacks_room l q)
    (λ lacks. subst (λ (m : Ledger). OlderBefore l.kept.board m.kept.board d e) (sym (next_lacks l q lacks)) (λ same some older. (some, older)))
    (λ roomy.
    subst (λ (c : Board). OlderBefore l.kept.board c d e) (sym (board_roomy l q roomy))
    (as_without t journal before (λ (b : Board). OlderBefore b (Rules.next b q) d e) (λ hs. Aging.none_becomes_older t right hs q d e)))
