-- The loop keeps its invariant, and where it ends or a record stops it, that is what is promised.
use Rattle.std.proofs.Common.{refl, sym, ap, arith}
use Rattle.board.specs.declared.Board.{Board}
use Rattle.pieces.specs.Pieces.{eights_of}
use Rattle.restart.specs.Restart.{as_if_going, unread}
use Rattle.restart.proofs.Steps.{goes, ends, is_all, chunks}
use Rattle.restart.proofs.reading.restored.Goals as goal

pub loop-bytes-init : goal.loop-bytes-init
unfolding eights_of
loop-bytes-init c = (ap (λ (b : Board). unread b.values) c.opening.ensures, omega arith, omega arith)

pub loop-bytes-preserved : goal.loop-bytes-preserved
loop-bytes-preserved c =
    let j = c.args.journal.now in
    let pieces = chunks j _ _ c.room.ensures c.as_chunks.ensures.front c.as_chunks.ensures.front_len in
    let piece = pieces.at c.loop-bytes.bytes-index (omega (arith, pieces.long)) in
    (goes _ _ _ _ _ _ _ c.loop-bytes.invariant.0 piece c.in-Some.ensures, omega (arith, c.in-Some.after.commits_small), omega (arith, c.in-Some.after.items_below))

pub returns-in_default : goal.returns-in_default
returns-in_default c =
    let j = c.args.journal.now in
    let pieces = chunks j _ _ c.room.ensures c.as_chunks.ensures.front c.as_chunks.ensures.front_len in
    let piece = pieces.at c.loop-bytes.bytes-index (omega (arith, pieces.long)) in
    let e = ends _ j _ _ c.loop-bytes.invariant.0 _ (omega (arith, pieces.long)) refl piece c.in_default.ensures in
    sym (ap as_if_going e)

pub returns : goal.returns
returns c =
    let j = c.args.journal.now in
    let pieces = chunks j _ _ c.room.ensures c.as_chunks.ensures.front c.as_chunks.ensures.front_len in
    let e = is_all _ j _ _ c.loop-bytes.invariant.0 (omega (arith, pieces.long)) in
    sym (ap as_if_going e)
