-- The loop keeps its invariant, and at its end that is what is promised.
use Prim.Native.Nat.{ℕ, ◌*◌}
use Rattle.lent.proofs.Served.{encode-length, next-board, next-answer, answers-length}
use Rattle.lent.specs.Served.{twelve_each, served}
use Rattle.pieces.proofs.Buffers.{turn}
use Rattle.pieces.proofs.Eights.{eight_at, part_bytes}
use Rattle.pieces.specs.Pieces.{eights_of}
use Rattle.runs.specs.Runs.{after}
use Rattle.wire.specs.Answers.{encode}
use Rattle.words.specs.Bytes.{byte}
use lib.ListN.{length}
use mathlib.Core.List.{List, ◌++◌}
use mathlib.Core.Path.{◌≡◌, refl, sym, ap, ◌∙◌}
use native.Mathlib.Omega.{arith}
use Rattle.serving.proofs.run.serve.Goals as goal

pub loop-k-init : goal.loop-k-init
unfolding eights_of twelve_each
loop-k-init g c = record { board = refl; answers = refl; length = refl; ready = c.requires.reached }

pub loop-k-preserved : goal.loop-k-preserved
loop-k-preserved g c =
    let a = c.args in
    let B = g.B.Serves in
    let s = a.requests.now in
    let k = c.loop-k.k in
    let q = eight_at s k in
    let last = after B.next a.board.now (eights_of s k) in
    let asked : c.eight-request.result ≡ q = c.eight-request.ensures in
    let board : c.step_in-answer.new.self ≡ B.next last q = c.step_in-answer.ensures.1 ∙ (λ i. B.next (c.loop-k.invariant.board i) (asked i)) in
    let reply : c.step_in-answer.result ≡ B.reply last q = c.step_in-answer.ensures.0 ∙ (λ i. B.reply (c.loop-k.invariant.board i) (asked i)) in
    let told : c.encode-bytes.result ≡ encode (byte q 1) (B.reply last q) = c.encode-bytes.ensures ∙ (λ i. encode (byte (asked i) 1) (reply i)) in
    record {
      board = board ∙ sym (next-board B.next B.reply a.board.now s k);
      answers = turn (λ n. served B.next B.reply a.board.now (eights_of s n)) 12 k a.answers.now c.loop-k.answers c.put.new.buffer c.encode-bytes.result
          (answers-length B.next B.reply a.board.now s k) (next-answer B.next B.reply a.board.now s k ∙ ap (λ (r : List ℕ). served B.next B.reply a.board.now (eights_of s k) ++ r) (sym told)) (ap length told ∙ encode-length _ _) c.loop-k.invariant.answers c.put.ensures;
      length = c.put.auto.buffer ∙ c.loop-k.invariant.length;
      ready = rw (board, ← c.loop-k.invariant.board) (g.met.B.Serves.keeps c.loop-k.board q (part_bytes s (8 * k) 8 (λ i. omega (arith, c.type_inv.requests i)) (omega arith)) c.loop-k.invariant.ready);
    }
