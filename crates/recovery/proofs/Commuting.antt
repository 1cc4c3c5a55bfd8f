-- The third demand: of two neighbours that share nothing one is no end, so it adds nothing to the journal; and it leaves the other's desk
-- as it was, so that one adds the same bytes before it and after it, or lacks room for them before it and after it.
use Prim.Native.Nat.{ℕ, ◌+◌}
use mathlib.Core.Path.{◌≡◌, refl, sym, ap, ◌∙◌, subst}
use mathlib.Core.Bool.{true, false, ◌&&◌, and_comm}
use mathlib.Core.List.{List}
use borrow.Author.Tests.{eq-eqb}
use lib.Dec.{eqb}
use lib.ListN.{get_or}
use lib.Seq.{get_or-set_other}
use Rattle.std.specs.Prelude.{Ok, Err}
use Rattle.items.proofs.Tests.{by_test, clash, and_in, and_not_right}
use Rattle.runs.proofs.Neighbours.{Commute, turned, exchanged}
use Rattle.wire.specs.Requests.{Decoded, decode, desk_of}
use Rattle.wire.specs.declared.Request.{Request}
use Rattle.wire.specs.declared.Answer.{Answer}
use Rattle.desks.specs.Desks.{beyond}
use Rattle.desks.specs.declared.Desk.{Desk}
use Rattle.board.specs.Rules as Rules
use Rattle.board.specs.Rules.{desk_at, answer, follow, stepped}
use Rattle.board.specs.declared.Board.{Board}
use Rattle.board.proofs.Sound.{Sound, opening_sound, step_sound}
use Rattle.demands.specs.Demands.{bound, bounds, is_from, Apart}
use Rattle.demands.proofs.Due.{Due, due}
use Rattle.demands.proofs.Done.{desk_now, kind, desks_after}
use Rattle.demands.proofs.Exchange as Base
use Rattle.records.specs.Records.{size_of}
use Rattle.journal.specs.Journal.{commits, limited, asking, added, Ledger, opened, next, reply}
use Rattle.recovery.specs.Journaled.{Exchanges}
use Rattle.recovery.proofs.Step.{Way, commit, silent, way, extended, with_board, followed, most, reply_is, reply_ways, next_is, reply_silent, next_silent}

-- ---- what is no begin and no end never commits

-- on no board does it commit
abbrev Quiet : List ℕ → Type 0
Quiet q = (b : Board) → commits (Rules.reply b q) ≡ false

due_quiet : (r : Request) {a : Answer} → Way a → Due r a → bound r ≡ false → commits a ≡ false
due_quiet r (commit n) t f = clash t f
due_quiet r (silent e h) t f = e

answer_quiet : (b : Board) (x : Decoded) → bounds x ≡ false → commits (answer b x) ≡ false
unfolding answer
answer_quiet b (Ok (d, r)) f = due_quiet r (way (answer b (Ok (d, r)))) (due b d r) f
answer_quiet b (Err n) f = refl

within_quiet : (q : List ℕ) → bounds (decode q) ≡ false → Quiet q
unfolding Rules.step
within_quiet q f b = answer_quiet b (decode q) f

-- then only the board changes
abbrev then : Ledger → List ℕ → Ledger
then l q = with_board l (Rules.next l.kept.board q)

module _ (l : Ledger) (q : List ℕ) (h : Quiet q) where
  next_then : next l q ≡ then l q
  next_then = next_silent l q (h l.kept.board)

  reply_then : reply l q ≡ Rules.reply l.kept.board q
  reply_then = reply_silent l q (h l.kept.board)

-- ---- a request leaves another's desk as it was

abbrev Others : Decoded → Decoded → Type 0
Others x y = (d : ℕ) → (is_from x d && is_from y d) ≡ false

desk_kept : (b : Board) (x y : Decoded) → Others x y → bounds x ≡ true → desk_at (stepped b y).board (desk_of x) ≡ desk_at b (desk_of x)
unfolding answer follow
desk_kept b (Err n) y others t = clash t refl
desk_kept b (Ok (d, r)) (Err n) others t = refl
desk_kept b (Ok (d, r)) (Ok (e, s)) others t =
    let a = answer b (Ok (e, s)) in
    ap (λ (ds : List Desk). get_or ds d beyond) (desks_after b (Ok (e, s)) a (kind a))
    ∙ get_or-set_other b.desks e d (desk_now b (Ok (e, s)) a) beyond
    (λ same. clash (and_in (eqb d d) (eqb e d) (eq-eqb d d refl) (eq-eqb e d (sym same))) (others d))

-- ---- neither request is a begin or an end

module _ (l : Ledger) (p q : List ℕ) (p_quiet : Quiet p) (q_quiet : Quiet q) where
  -- p after q
  board_both : next (next l q) p ≡ with_board l (Rules.next (Rules.next l.kept.board q) p)
  board_both = ap (λ (m : Ledger). next m p) (next_then l q q_quiet) ∙ next_then (then l q) p p_quiet

  reply_both : reply (next l q) p ≡ Rules.reply (Rules.next l.kept.board q) p
  reply_both = ap (λ (m : Ledger). reply m p) (next_then l q q_quiet) ∙ reply_then (then l q) p p_quiet

both_quiet :
    (l : Ledger) (p q : List ℕ) → Quiet p → Quiet q → Commute Rules.next Rules.reply l.kept.board p q → Commute next reply l p q
both_quiet l p q hp hq c =
    record {
      board = board_both l p q hp hq ∙ ap (with_board l) c.board ∙ sym (board_both l q p hq hp);
      first = reply_both l p q hp hq ∙ c.first ∙ sym (reply_then l p hp);
      second = reply_both l q p hq hp ∙ c.second ∙ sym (reply_then l q hq);
    }

-- ---- the first may be an end, and finds its desk the same after the second

module _ (l : Ledger) (p q : List ℕ) (h : Quiet q) (c : Commute Rules.next Rules.reply l.kept.board p q)
    (desk : desk_at (Rules.next l.kept.board q) (desk_of (decode p)) ≡ desk_at l.kept.board (desk_of (decode p))) where
  abbrev b : Board
  b = l.kept.board

  abbrev x : Decoded
  x = decode p

  -- its answer stands or is the refusal, alike before and after the second
  abbrev a : Answer
  a = reply l p

  same_answer : reply (then l q) p ≡ a
  same_answer =
      reply_is (then l q) p
      ∙ (λ i. limited (l.kept.used + size_of (desk i).written) (most l p) (c.first i)) ∙ sym (reply_is l p)

  same_board : follow (Rules.next b q) x a ≡ Rules.next (follow b x a) q
  unfolding Rules.step follow
  same_board =
      reply_ways l p (λ (a : Answer). follow (Rules.next b q) x a ≡ Rules.next (follow b x a) q)
      (ap (follow (Rules.next b q) x) (sym c.first) ∙ c.board) refl

  same_second : Rules.reply (follow b x a) q ≡ Rules.reply b q
  unfolding Rules.step follow
  same_second = reply_ways l p (λ (a : Answer). Rules.reply (follow b x a) q ≡ Rules.reply b q) c.second refl

  -- the bytes that it adds
  abbrev s : List ℕ
  s = added (asking l.kept x) a

  one_quiet : Commute next reply l p q
  one_quiet =
      record {
        board =
            ap (λ (m : Ledger). next m p) (next_then l q h)
            ∙ next_is (then l q) p
            ∙ (λ i. extended l (follow (Rules.next b q) x (same_answer i)) (added (desk i) (same_answer i)))
            ∙ ap (λ (d : Board). extended l d s) same_board
            ∙ sym (ap (λ (m : Ledger). next m q) (next_is l p) ∙ next_then (followed l x a) q h);
        first = ap (λ (m : Ledger). reply m p) (next_then l q h) ∙ same_answer;
        second =
            ap (λ (m : Ledger). reply m q) (next_is l p)
            ∙ reply_then (followed l x a) q h ∙ same_second ∙ sym (reply_then l q h);
      }

-- ---- a pair

-- the first is a begin or an end, the second is none
ends_first :
    (l : Ledger) (p q : List ℕ) → Commute Rules.next Rules.reply l.kept.board p q → Others (decode p) (decode q)
    → bounds (decode p) ≡ true → bounds (decode q) ≡ false → Commute next reply l p q
unfolding Rules.step
ends_first l p q c others t f = one_quiet l p q (within_quiet q f) c (desk_kept l.kept.board (decode p) (decode q) others t)

abbrev Parted : Ledger → List ℕ → List ℕ → Type 0
Parted l p q = Apart l.kept.board (decode p) (decode q)

pair : (l : Ledger) (p q : List ℕ) → Sound l.kept.board → Parted l p q → Commute next reply l p q
pair l p q sound m =
    let x = decode p in
    let y = decode q in
    let c = Base.pair l.kept.board p q sound m in
    by_test (bounds y)
    (λ t.
    turned
    (ends_first l q p (turned c) (λ d. and_comm (is_from y d) (is_from x d) ∙ m.desks d) t (and_not_right (bounds x) (bounds y) m.ends t)))
    (λ f.
    by_test (bounds x) (λ t. ends_first l p q c m.desks t f)
    (λ g. both_quiet l p q (within_quiet p g) (within_quiet q f) c))

-- ---- the whole run

sound_next : (l : Ledger) (q : List ℕ) → Sound l.kept.board → Sound (next l q).kept.board
unfolding Rules.step follow
sound_next l q sound =
    subst (λ (m : Ledger). Sound m.kept.board) (sym (next_is l q))
    (reply_ways l q (λ (a : Answer). Sound (follow l.kept.board (decode q) a)) (step_sound sound q) sound)

pub exchanges : Exchanges
exchanges t right j before p q later =
    exchanged next reply (λ l. Sound l.kept.board) Parted sound_next pair (opened t j) (opening_sound t) before p q later
