-- Nothing was refused, so the board can be reached and the buffers have room; each holds what `fill` leaves.
use Prim.Native.Nat.{◌/◌}
use Rattle.board.proofs.Reached.{reached_opening}
use Rattle.board.specs.declared.Board.{Board}
use Rattle.lent.proofs.Refused.{accepted}
use Rattle.pieces.proofs.Eights.{eights_of-length}
use Rattle.pieces.specs.Pieces.{eights_in, four_each}
use Rattle.serving.specs.Run.{told}
use Rattle.words.specs.Bytes.{Bytes}
use lib.IntN.{pos}
use lib.ListN.{length, drop}
use mathlib.Core.List.{◌++◌}
use mathlib.Core.Path.{◌≡◌, ap, ◌∙◌}
use Rattle.serving.proofs.run.complete.Goals as goal

pub fill-requires : goal.fill-requires
fill-requires c =
    let ok = accepted _ _ _ _ c.requires in
    let bytes : Bytes 1024 c.args.table.now = record { long = c.told-table; small = c.fits-table } in
    record { reached = rw c.opening-board.ensures (reached_opening _ bytes ok.right); room = ok.room; wide = ok.wide }

pub returns : goal.returns
returns c =
    let a = c.args in
    let q = a.requests.now in
    let n : length (eights_in q) ≡ length q / 8 = eights_of-length q (length q / 8) in
    let values = c.fill.ensures.values_after ∙ ap (λ (b : Board). four_each b.values ++ drop 256 a.values.now) c.fill.ensures.value in
    rw (n, ← c.opening-board.ensures) (λ i. told (pos (length q / 8)) (c.fill.ensures.answers_after i) (values i))
