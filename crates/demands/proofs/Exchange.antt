-- The third demand: neighbouring requests that share nothing may be exchanged.
use mathlib.Core.Path.{◌≡◌, refl, sym, ap, ◌∙◌}
use mathlib.Core.Bool.{false}
use mathlib.Core.List.{List}
use Prim.Native.Nat.{ℕ}
use borrow.Author.Tests.{eq-eqb}
use lib.Dec.{eqb}
use Rattle.std.specs.Prelude.{Ok}
use Rattle.items.proofs.Tests.{by_test, clash, and_in, and_not_right}
use Rattle.runs.proofs.Neighbours.{Commute, turned, exchanged}
use Rattle.words.specs.Bytes.{byte}
use Rattle.wire.specs.Requests.{Decoded, decode}
use Rattle.wire.specs.declared.Request.{Request}
use Rattle.wire.specs.declared.Answer.{Answer}
use Rattle.wire.proofs.Forms.{wanted, Shape, bad, good, shape}
use Rattle.board.specs.Rules.{answer, follow, stepped, step, next, reply}
use Rattle.board.specs.Opening.{opening}
use Rattle.demands.specs.Demands.{bound, Apart, Exchanges}
use Rattle.board.specs.declared.Board.{Board}
use Rattle.board.proofs.Sound.{Sound, opening_sound, step_sound}
use Rattle.demands.proofs.Due.{due}
use Rattle.demands.proofs.Pair.{Parted, flip, answer_kept, board_kept}

-- ---- decoded requests

abbrev does : Board → Decoded → Board
does b x = (stepped b x).board

abbrev says : Board → Decoded → Answer
says b x = (stepped b x).answer

module _ (b : Board) where
  -- the second is no begin and no end
  within : (d : ℕ) (r : Request) (e : ℕ) (s : Request) → Parted b d r e s → bound s ≡ false → Commute does says b (Ok (d, r)) (Ok (e, s))
  within d r e s c f =
      let a = answer b (Ok (d, r)) in
      let x = answer b (Ok (e, s)) in
      let one = answer_kept b e s d r (flip c) x (due b e s) in
      let two = answer_kept b d r e s c a (due b d r) in
      record {
        board =
            ap (follow (follow b (Ok (e, s)) x) (Ok (d, r))) one
            ∙ board_kept b d r e s c a (due b d r) f x (due b e s)
            ∙ sym (ap (follow (follow b (Ok (d, r)) a) (Ok (e, s))) two);
        first = one;
        second = two;
      }

  asked : (d : ℕ) (r : Request) (e : ℕ) (s : Request) → Parted b d r e s → Commute does says b (Ok (d, r)) (Ok (e, s))
  asked d r e s c =
      by_test (bound s)
      (λ t. turned (within e s d r (flip c) (and_not_right (bound r) (bound s) c.ends t)))
      (within d r e s c)

-- ---- a pair of requests

module _ (b : Board) (p q : List ℕ) (sound : Sound b) where
  -- what is malformed is refused, whatever the board, and changes nothing
  shapes : {x y : Decoded} → Shape p x → Shape q y → Apart b x y → Commute does says b x y
  unfolding answer follow
  shapes (bad n) y m = record { board = refl; first = refl; second = refl }
  shapes (good low) (bad n) m = record { board = refl; first = refl; second = refl }
  shapes (good low) (good low') m =
      asked b (byte p 1) (wanted p) (byte q 1) (wanted q)
      (record {
        first = rw sound.desks.sixteen low;
        second = rw sound.desks.sixteen low';
        desks =
            λ e.
            let d = byte p 1 in
            clash (and_in (eqb d d) (eqb (byte q 1) d) (eq-eqb d d refl) (eq-eqb (byte q 1) d (sym e))) (m.desks d);
        ends = m.ends;
        items = m.items;
      })

  pub pair : Apart b (decode p) (decode q) → Commute next reply b p q
  unfolding step
  pair m = let c = shapes (shape p) (shape q) m in record { board = c.board; first = c.first; second = c.second }

-- ---- the whole run

pub exchanges : Exchanges
exchanges t right before p q later =
    exchanged next reply Sound (λ b p q. Apart b (decode p) (decode q)) (λ b q sound. step_sound sound q) pair
    (opening t) (opening_sound t) before p q later
