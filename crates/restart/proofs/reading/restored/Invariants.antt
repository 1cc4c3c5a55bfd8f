-- The invariant: the reading is that of the records before this one.
use Rattle.std.proofs.Common.{◌≡◌, ◌<◌, ◌≤◌, false}
use Rattle.runs.specs.Runs.{after}
use Rattle.board.specs.Opening.{opening}
use Rattle.pieces.specs.Pieces.{eights_of}
use Rattle.restart.specs.Restart.{Reading, unread, read}
use Rattle.restart.proofs.reading.restored.Given as goal

abbrev pub invariant-loop-bytes : goal.invariant-loop-bytes
invariant-loop-bytes l =
    let at : Reading = record { commits = l.at.0; whole = l.at.1.0; items = l.at.1.1.0; next = l.at.1.1.1.0; values = l.at.1.1.1.1.0; stopped = false } in
    (at ≡ after (read l.table) (unread (opening l.table).values) (eights_of l.journal l.bytes-index)) × (at.commits < 65536) × (at.items ≤ at.next)
