-- One request on a board with a journal: where room lacks it is refused and changes nothing; elsewhere it is answered and followed as on the
-- board without one, and only a commit adds to the journal.
use Prim.Native.Nat.{ℕ, ◌+◌}
use mathlib.Core.Path.{◌≡◌, refl, sym, ap, ◌∙◌, subst}
use mathlib.Core.Bool.{true, false, ◌&&◌}
use mathlib.Core.List.{List, []}
use native.Mathlib.Nat.{add-zero}
use borrow.Author.Tests.{lt-ltb}
use lib.Dec.{ltb}
use lib.ListN.{length}
use Rattle.items.proofs.Tests.{by_test, clash, and_left, and_in}
use Rattle.counters.specs.declared.Number.{Number}
use Rattle.wire.specs.Requests.{Decoded, decode}
use Rattle.wire.specs.declared.Answer.{Answer}
use Rattle.wire.specs.declared.Answer.TheVariants.{Refused, Opened, Value, Stored, Wait, Committed, Abandoned, Aborted}
use Rattle.desks.specs.declared.Desk.{Desk}
use Rattle.board.specs.Rules as Rules
use Rattle.board.specs.Rules.{follow}
use Rattle.board.specs.declared.Board.{Board}
use Rattle.demands.specs.Demands.{changes_nothing}
use Rattle.demands.proofs.Done as Done
use Rattle.records.specs.Records.{size_of, room, over}
use Rattle.records.proofs.Appended.{over_none}
use Rattle.journal.specs.Journal.{commits, limited, asking, answer_in, added, step, journal_after, Ledger, next, reply}
use Rattle.journal.proofs.Room.{limited_ways}
use Rattle.recovery.specs.Journaled.{lacks_room, FifteenWhereRoomLacks, Unchanged}

-- ---- two kinds of answers

-- it adds nothing to the journal
abbrev pub Silent : Answer → Type 0
Silent a = (k : Desk) → added k a ≡ []

pub data Way : Answer → Type 0 where
  commit : (n : Number) → Way (Committed n)
  silent : {a : Answer} → commits a ≡ false → Silent a → Way a

pub way : (a : Answer) → Way a
way (Refused n) = silent refl (λ k. refl)
way (Opened a s) = silent refl (λ k. refl)
way (Value i v) = silent refl (λ k. refl)
way (Stored i) = silent refl (λ k. refl)
way (Wait i e) = silent refl (λ k. refl)
way (Committed n) = commit n
way Abandoned = silent refl (λ k. refl)
way (Aborted w) = silent refl (λ k. refl)

silent_of : (a : Answer) → commits a ≡ false → Silent a
silent_of a = go (way a)
  where
    go : {a : Answer} → Way a → commits a ≡ false → Silent a
    go (commit n) f = clash refl f
    go (silent e h) f = h

-- ---- the answer

module _ (need most : ℕ) where
  limited_lacks : {a : Answer} → Way a → (commits a && ltb most need) ≡ true → limited need most a ≡ Refused 15
  limited_lacks (commit n) t = rw t
  limited_lacks {a} (silent e h) t = clash (and_left (commits a) (ltb most need) t) e

  limited_roomy : (a : Answer) → (commits a && ltb most need) ≡ false → limited need most a ≡ a
  limited_roomy a f =
      limited_ways need most (λ (x : Answer). x ≡ a) a refl
      (λ n e less. clash (and_in (commits a) (ltb most need) (ap commits e) (lt-ltb most need less)) f)

-- ---- the ledger after an answer

-- with another board, and these bytes added to its journal
abbrev pub extended : Ledger → Board → List ℕ → Ledger
extended l b s =
    record {
      kept = record { board = b; used = l.kept.used + length s };
      journal = over l.journal l.kept.used s;
    }

-- with another board, and its journal as it was
abbrev pub with_board : Ledger → Board → Ledger
with_board l b = record { kept = record { board = b; used = l.kept.used }; journal = l.journal }

extended_none : (l : Ledger) (b : Board) → extended l b [] ≡ with_board l b
extended_none l b i =
    record {
      kept = record { board = b; used = add-zero l.kept.used i };
      journal = over_none l.journal l.kept.used i;
    }

abbrev pub followed : Ledger → Decoded → Answer → Ledger
followed l d a = extended l (follow l.kept.board d a) (added (asking l.kept d) a)

-- ---- one request

module _ (l : Ledger) (q : List ℕ) where
  -- the bytes used with its records, were it a commit; and the room for them
  abbrev pub need : ℕ
  need = l.kept.used + size_of (asking l.kept (decode q)).written

  abbrev pub most : ℕ
  most = room (length l.journal)

  -- the board's own answer
  abbrev pub own : Answer
  own = Rules.reply l.kept.board q

  pub reply_is : reply l q ≡ limited need most own
  unfolding step answer_in Rules.step
  reply_is = refl

  -- a fact of the board's own answer, and of the refusal
  pub reply_ways : (P : Answer → Type 0) → P own → P (Refused 15) → P (reply l q)
  reply_ways P p r = subst P (sym reply_is) (limited_ways need most P own p (λ _ _ _. r))

  pub next_is : next l q ≡ followed l (decode q) (reply l q)
  unfolding step journal_after answer_in
  next_is = refl

  -- where it is answered as without a journal, its board is the same too
  pub next_own : reply l q ≡ own → next l q ≡ extended l (Rules.next l.kept.board q) (added (asking l.kept (decode q)) own)
  unfolding Rules.step
  next_own e = next_is ∙ ap (followed l (decode q)) e

  pub reply_lacks : lacks_room l q ≡ true → reply l q ≡ Refused 15
  reply_lacks t = reply_is ∙ limited_lacks need most (way own) t

  pub next_lacks : lacks_room l q ≡ true → next l q ≡ l
  unfolding follow
  next_lacks t = next_is ∙ ap (followed l (decode q)) (reply_lacks t) ∙ extended_none l l.kept.board

  pub reply_roomy : lacks_room l q ≡ false → reply l q ≡ own
  reply_roomy f = reply_is ∙ limited_roomy need most own f

  pub board_roomy : lacks_room l q ≡ false → (next l q).kept.board ≡ Rules.next l.kept.board q
  board_roomy f = ap (λ (m : Ledger). m.kept.board) (next_own (reply_roomy f))

  -- where the board's own answer is no commit, the journal is as it was
  module _ (f : commits own ≡ false) where
    pub reply_silent : reply l q ≡ own
    reply_silent = reply_is ∙ limited_roomy need most own (rw f)

    pub next_silent : next l q ≡ with_board l (Rules.next l.kept.board q)
    next_silent =
        let b = Rules.next l.kept.board q in
        next_own reply_silent ∙ ap (extended l b) (silent_of own f (asking l.kept (decode q))) ∙ extended_none l b

pub fifteen_where_room_lacks : FifteenWhereRoomLacks
fifteen_where_room_lacks l q = (λ t. (reply_lacks l q t, next_lacks l q t), reply_roomy l q)

-- ---- a refusal or a wait changes nothing

no_commit : {a : Answer} → Way a → changes_nothing a ≡ true → commits a ≡ false
no_commit (commit n) t = clash t refl
no_commit (silent f h) t = f

pub unchanged : Unchanged
unchanged l q t =
    by_test (lacks_room l q) (next_lacks l q)
    (λ f.
    let own_too : changes_nothing (own l q) ≡ true = rw (reply_roomy l q f) at t in
    next_silent l q (no_commit (way (own l q)) own_too) ∙ ap (with_board l) (Done.unchanged l.kept.board q own_too))
