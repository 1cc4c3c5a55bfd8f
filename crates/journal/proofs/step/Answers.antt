-- A board that was reached is sound, what is used fits the journal, and what is answered is in range.
use Rattle.board.proofs.Reached.{reached_sound, sound_counted}
use Rattle.journal.proofs.Kept.{reached_fine, given_item}
use Rattle.board.specs.Rules.{desk_at}
use Rattle.records.specs.Records.{size_of}
use Prim.Native.Nat.{◌+◌, ◌<◌}
use Rattle.board.proofs.Bounds.{answer_item}
use Rattle.wire.specs.Answers.{item_of}
use native.Mathlib.Omega.{arith}
use Rattle.journal.proofs.step.Goals as goal

pub answer-first-requires : goal.answer-first-requires
answer-first-requires c = sound_counted (reached_sound (reached_fine c.requires).0)

pub limited-answer-requires : goal.limited-answer-requires
limited-answer-requires c = (reached_fine c.requires).1

pub follow-board-requires : goal.follow-board-requires
follow-board-requires c =
    let a = c.args in
    let first : item_of c.answer-first.result < 64 = rw c.answer-first.ensures (answer_item _ _) in
    let given : item_of c.limited-answer.result < 64 =
    given_item (a.s.used + size_of (desk_at a.s.board c.index.result).written) c.room.result _ _ c.answer-first.ensures c.limited-answer.ensures in
    omega (arith, first, given)
