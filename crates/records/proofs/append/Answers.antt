-- The loop keeps its invariant, and at its end that is what is promised.
use Prim.Native.Nat.{ℕ, ◌+◌, ◌*◌, ◌/◌, ◌-◌}
use Rattle.desks.specs.Desks.{copy_of}
use Rattle.pieces.specs.Pieces.{in_one}
use Rattle.records.proofs.Appended.{over_none, over_more}
use Rattle.records.proofs.Sizes.{in_one-append, count_suc, items_suc, item_length, items_length, entry_length}
use Rattle.items.specs.Items.{count_below}
use Rattle.records.specs.Records.{record_of, item_record, item_records, over}
use lib.ListN.{length}
use mathlib.Core.List.{List, [], ◌∷◌}
use mathlib.Core.Path.{◌≡◌, ap, sym, ◌∙◌}
use native.Mathlib.Omega.{arith}
use Rattle.records.proofs.append.Goals as goal

pub loop-i-init : goal.loop-i-init
unfolding count_below item_records
loop-i-init c = (omega arith, sym (over_none c.args.journal.now c.args.at))

pub loop-i-preserved : goal.loop-i-preserved
loop-i-preserved c =
    let a = c.args in
    let w = a.k.written in
    let f = copy_of a.k in
    let n = a.number.0 in
    let i = c.loop-i.i in
    let long : c.loop-i.next ≡ a.at + length (in_one (item_records w f n i)) = omega (arith, items_length w f n i, c.loop-i.invariant.0) in
    let put : c.put_item-next.new.journal ≡ over c.loop-i.journal c.loop-i.next (in_one (item_record w i n (f i))) =
    c.put_item-next.ensures.journal_after ∙ ap (λ (j : ℕ). over c.loop-i.journal c.loop-i.next (in_one (item_record w j n (f i)))) c.at.ensures in
    let value : c.put_item-next.result ≡ c.loop-i.next + length (in_one (item_record w i n (f i))) =
    c.put_item-next.ensures.value ∙ ap (λ (j : ℕ). c.loop-i.next + length (in_one (item_record w j n (f i)))) c.at.ensures in (
      rw count_suc (omega (arith, value, item_length w i n (f i), c.loop-i.invariant.0)),
      put
          ∙ ap (λ (j : List ℕ). over j c.loop-i.next (in_one (item_record w i n (f i)))) c.loop-i.invariant.1
          ∙ over_more a.journal.now a.at (in_one (item_records w f n i)) (in_one (item_record w i n (f i))) c.loop-i.next (omega arith) long
          ∙ ap (over a.journal.now a.at) (sym (items_suc w f n i)),
    )

pub returns : goal.returns
returns c =
    let a = c.args in
    let w = a.k.written in
    let f = copy_of a.k in
    let n = a.number.0 in
    let e : c.loop-i.i ≡ 64 = omega arith in
    let long : c.loop-i.next ≡ a.at + 8 * count_below w 64 = rw e at c.loop-i.invariant.0 in
    let front : c.loop-i.journal ≡ over a.journal.now a.at (in_one (item_records w f n 64)) = rw e at c.loop-i.invariant.1 in
    let last : c.record-bytes.result ≡ record_of 2 0 n ((c.loop-i.next - a.at) / 8) = cc in
    let closing : c.record-bytes.result ≡ record_of 2 0 n (count_below w 64) = last ∙ ap (record_of 2 0 n) (omega arith) in
    let put : c.put.new.buffer ≡ over c.loop-i.journal c.loop-i.next c.record-bytes.result = cc in record {
      value = omega (arith, entry_length w f n);
      journal_after = put
          ∙ (λ i. over (front i) c.loop-i.next (closing i))
          ∙ over_more a.journal.now a.at (in_one (item_records w f n 64)) (record_of 2 0 n (count_below w 64)) c.loop-i.next (omega arith) (omega (arith, items_length w f n 64))
          ∙ ap (over a.journal.now a.at) (sym (in_one-append (item_records w f n 64) (record_of 2 0 n (count_below w 64) ∷ [])));
    }
