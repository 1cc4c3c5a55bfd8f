-- Place by place.
use Rattle.std.proofs.Common.{ℕ, ◌+◌, ◌*◌, sym, rules}
use Rattle.words.specs.Bytes.{word_at}
use Rattle.board.proofs.Filled.{column_is}
use Rattle.opening.proofs.Made.{made}
use Rattle.opening.proofs.column.Goals as goal

pub returns : goal.returns
returns c =
    let number = λ (i : ℕ). word_at c.args.table.now (16 * i + c.args.at) in
    let items = c.from_fn.ensures.items in
    sym (column_is number _ items.long (made number items (λ i y q called. (search rules, search rules))))
