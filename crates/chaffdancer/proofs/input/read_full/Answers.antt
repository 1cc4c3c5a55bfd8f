-- A read puts its bytes behind those that stand there, and what it took of the input follows what was taken.
use Rattle.std.proofs.Common.{◌≡◌, ℕ, ◌+◌, ◌≤◌, List, ◌++◌, length, take, ap, ◌∙◌, sym, subst, rules, ◌-◌}
use Rattle.std.proofs.lemmas.List.{take-append-le}
use Rattle.std.proofs.Math.Seq.{take-append-add, length-take-le}
use Rattle.std.proofs.KnownBytes.{Consumes-trans}
use Rattle.std.specs.Io.KnownBytes.{Consumes}
use borrow.Rule.Slice.PartMut.{put_mid, post_of}
use Rattle.chaffdancer.proofs.input.read_full.Goals as goal

one_more : (xs ys : List ℕ) (a k n : ℕ) → a ≤ length xs → n ≤ length ys → take (a + n) (put_mid a k xs ys) ≡ take a xs ++ take n ys
one_more xs ys a k n ha hn =
    ap (λ (m : ℕ). take (m + n) (put_mid a k xs ys)) (sym (length-take-le a xs ha)) ∙ take-append-add (take a xs) (ys ++ post_of a k xs) n
    ∙ ap (λ (l : List ℕ). take a xs ++ l) (take-append-le n ys (post_of a k xs) hn)

pub loop-done-preserved : goal.loop-done-preserved
loop-done-preserved g c =
    let it = c.loop-done in
    let bound = c.in_ok-n.ensures.bound.0 in
    record {
      within = search rules;
      bytes =
          subst (Consumes _ _)
          (sym (one_more it.buffer c.read.new.buf it.done (length it.buffer - it.done) c.in_ok-n.n it.invariant.within bound))
          (Consumes-trans _ _ _ _ _ it.invariant.bytes c.in_ok-n.ensures.bytes.0);
    }
