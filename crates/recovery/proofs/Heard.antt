-- The second demand: leave out the requests that were refused for want of room, and the run is one of the board without a journal.
use Prim.Native.Nat.{ℕ}
use mathlib.Core.Path.{◌≡◌, refl, sym, ap, ◌∙◌, subst₂}
use mathlib.Core.Bool.{cond}
use mathlib.Core.List.{List, [], ◌∷◌}
use Rattle.items.proofs.Tests.{by_cond}
use Rattle.runs.specs.Runs.{after, answers}
use Rattle.runs.specs.Replay.{Replayed}
use Rattle.wire.specs.Requests.{decode}
use Rattle.wire.specs.declared.Answer.{Answer}
use Rattle.board.specs.Rules as Rules
use Rattle.board.specs.Opening.{opening}
use Rattle.board.specs.declared.Board.{Board}
use Rattle.demands.specs.History.{History, nothing, told, history_from}
use Rattle.demands.proofs.Replay as Base
use Rattle.journal.specs.Journal.{Ledger, opened, next, reply}
use Rattle.recovery.specs.Journaled.{lacks_room, Replays}
use Rattle.recovery.proofs.Step.{next_lacks, reply_lacks, reply_roomy, board_roomy}

-- the requests that found room, or needed none
abbrev pub heard : Ledger → List (List ℕ) → List (List ℕ)
heard l [] = []
heard l (q ∷ qs) = let rest = heard (next l q) qs in cond (lacks_room l q) rest (q ∷ rest)

-- they leave the same board
pub heard_board : (l : Ledger) (qs : List (List ℕ)) → (after next l qs).kept.board ≡ after Rules.next l.kept.board (heard l qs)
heard_board l [] = refl
heard_board l (q ∷ qs) =
    let rest = heard (next l q) qs in
    let from : Board → Board = λ b. after Rules.next b rest in
    by_cond (λ (hs : List (List ℕ)). (after next (next l q) qs).kept.board ≡ after Rules.next l.kept.board hs) (lacks_room l q)
    (λ t. heard_board (next l q) qs ∙ ap (λ (m : Ledger). from m.kept.board) (next_lacks l q t))
    (λ f. heard_board (next l q) qs ∙ ap from (board_roomy l q f))

-- and tell the same history
heard_history :
    (h : History) (l : Ledger) (qs : List (List ℕ))
    → history_from h qs (answers next reply l qs) ≡ history_from h (heard l qs) (answers Rules.next Rules.reply l.kept.board (heard l qs))
heard_history h l [] = refl
heard_history h l (q ∷ qs) =
    let rest = heard (next l q) qs in
    let from : History → Board → History = λ k b. history_from k rest (answers Rules.next Rules.reply b rest) in
    let told_by : Answer → History = told h (decode q) in
    by_cond
    (λ (hs : List (List ℕ)).
    history_from (told_by (reply l q)) qs (answers next reply (next l q) qs) ≡ history_from h hs (answers Rules.next Rules.reply l.kept.board hs))
    (lacks_room l q)
    (λ t.
    heard_history (told_by (reply l q)) (next l q) qs
    ∙ (λ i. from (told_by (reply_lacks l q t i)) (next_lacks l q t i).kept.board))
    (λ f.
    heard_history (told_by (reply l q)) (next l q) qs
    ∙ (λ i. from (told_by (reply_roomy l q f i)) (board_roomy l q f i)))

pub replays : Replays
replays t right j qs =
    let l = opened t j in
    subst₂ (λ (b : Board) (h : History). Replayed (opening t).values b.values h.done)
    (sym (heard_board l qs)) (sym (heard_history nothing l qs)) (Base.replays t right (heard l qs))
