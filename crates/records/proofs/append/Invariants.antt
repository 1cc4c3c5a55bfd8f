-- The invariant: the records of the items below i stand in their places, and all else is as it was.
use Rattle.std.proofs.Common.{◌≡◌, ◌+◌, ◌*◌, get_or}
use Rattle.pieces.specs.Pieces.{in_one}
use Rattle.items.specs.Items.{count_below}
use Rattle.records.specs.Records.{item_records, over}
use Rattle.records.proofs.append.Given as goal

abbrev pub invariant-loop-i : goal.invariant-loop-i
invariant-loop-i l =
    (l.next ≡ l.at + 8 * count_below l.fn.k.written l.i)
    × (l.journal ≡ over l.initial.journal l.at (in_one (item_records l.fn.k.written (λ j. get_or l.fn.k.copies j 0) l.number.0 l.i)))
