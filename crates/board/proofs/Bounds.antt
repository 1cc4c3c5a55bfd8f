-- The bounds of what is asked and answered: the desk is one of the sixteen, and the item of an answer one of the 64.
use mathlib.Core.List.{List}
use Prim.Native.Nat.{ℕ, ◌<◌}
use native.Mathlib.Nat.{zero-lt-suc}
use Rattle.wire.specs.Requests.{Decoded, decode, desk_of}
use Rattle.wire.specs.Answers.{item_of}
use Rattle.wire.specs.declared.Answer.{Answer}
use Rattle.wire.specs.declared.Answer.TheVariants.{Refused, Opened, Value, Stored, Wait, Committed, Abandoned, Aborted}
use Rattle.wire.proofs.Forms.{Shape, bad, good, shape}
use Rattle.board.specs.Rules.{answer}
use Rattle.board.specs.declared.Board.{Board}
use Rattle.board.proofs.Granted.{Granted, answer-granted}

-- the desk that asks is one of the sixteen
pub desk_low : (q : List ℕ) → desk_of (decode q) < 16
desk_low q = go (shape q)
  where
    go : {x : Decoded} → Shape q x → desk_of x < 16
    go (bad n) = zero-lt-suc 15
    go (good h) = h

item_low : (b : Board) (d : ℕ) (a : Answer) → Granted b d a → item_of a < 64
item_low b d (Refused n) g = zero-lt-suc 63
item_low b d (Opened a s) g = zero-lt-suc 63
item_low b d (Value i v) g = g.item
item_low b d (Stored i) g = g.item
item_low b d (Wait i e) g = zero-lt-suc 63
item_low b d (Committed n) g = zero-lt-suc 63
item_low b d Abandoned g = zero-lt-suc 63
item_low b d (Aborted w) g = zero-lt-suc 63

pub answer_item : (b : Board) (q : Decoded) → item_of (answer b q) < 64
answer_item b q = item_low b (desk_of q) (answer b q) (answer-granted b q)
