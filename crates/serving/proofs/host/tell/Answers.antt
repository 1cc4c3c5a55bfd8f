-- A run of one request leaves the board and the bytes of that request.
use Rattle.lent.proofs.Served.{one_board, one_answer}
use borrow.Author.Rules.{rules}
use lib.ListN.{replicate}
use mathlib.Core.Path.{refl, ◌∙◌}
use Rattle.serving.proofs.host.tell.Goals as goal

pub returns : goal.returns
returns g c =
    let a = c.args in
    let B = g.B.Serves in
    let board = c.serve.ensures.value ∙ one_board B.next B.reply a.board.now a.request (search rules) in
    let bytes = c.serve.ensures.answers_after ∙ one_answer B.next B.reply a.board.now a.request (search rules) (replicate 12 0) refl in
    (board, bytes)
