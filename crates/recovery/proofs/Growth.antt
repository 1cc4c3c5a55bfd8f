-- What is used of the journal grows within its room, and a request writes only the bytes that it comes to use.
use Prim.Native.Nat.{ℕ, ◌+◌, ◌-◌, ◌≤◌}
use mathlib.Core.Path.{◌≡◌, sym, ap, ◌∙◌, subst}
use mathlib.Core.List.{List, ◌++◌, append_assoc}
use native.Mathlib.Omega.{arith}
use lib.ListN.{length, take, drop}
use lib.Seq.{length-take-le, take_at, drop-drop, drop-paste}
use Rattle.runs.specs.Runs.{after}
use Rattle.runs.proofs.Grown.{after_keeps}
use Rattle.wire.specs.Requests.{decode}
use Rattle.wire.specs.declared.Answer.{Answer}
use Rattle.records.specs.Records.{room, over}
use Rattle.records.proofs.Appended.{over_is, over-length}
use Rattle.journal.specs.Journal.{limited, asking, added, Ledger, opened, next, reply}
use Rattle.records.proofs.Sizes.{room_most, room_within}
use Rattle.journal.proofs.Room.{limited_twice}
use Rattle.journal.proofs.Kept.{used_most}
use Rattle.recovery.specs.Journaled.{Kept, KeepsOthers}
use Rattle.recovery.proofs.Step.{need, most, own, reply_is, next_is}

-- ---- bytes over a buffer

module _ (j : List ℕ) (at : ℕ) (s : List ℕ) (h : at ≤ length j) where
  over-take : take at (over j at s) ≡ take at j
  over-take =
      ap (take at) (over_is j at s ∙ append_assoc (take at j) s (drop (at + length s) j))
      ∙ take_at (take at j) (s ++ drop (at + length s) j) at (length-take-le at j h)

  over-drop : drop (at + length s) (over j at s) ≡ drop (at + length s) j
  over-drop = drop-paste j at s (length s) h (omega arith)

  -- and from any later byte on
  over_past : (n : ℕ) → at + length s ≤ n → drop n (over j at s) ≡ drop n j
  over_past n l =
      let end = at + length s in
      let e : end + (n - end) ≡ n = omega arith in
      let from : (k : List ℕ) → drop n k ≡ drop (n - end) (drop end k) =
      λ k. ap (λ (m : ℕ). drop m k) (sym e) ∙ sym (drop-drop (n - end) end k) in
      from (over j at s) ∙ ap (drop (n - end)) over-drop ∙ sym (from j)

-- ---- one request

-- no more is used than there is room
abbrev Within : Ledger → Type 0
Within l = l.kept.used ≤ room (length l.journal)

module _ (l : Ledger) (q : List ℕ) (h : Within l) where
  -- the bytes added
  abbrev new : List ℕ
  new = added (asking l.kept (decode q)) (reply l q)

  new_fits : l.kept.used + length new ≤ most l q
  new_fits =
      used_most (asking l.kept (decode q)) l.kept.used (most l q) (most l q) (reply l q)
      (subst (λ (a : Answer). limited (need l q) (most l q) a ≡ a) (sym (reply_is l q)) (limited_twice (need l q) (most l q) (own l q)))
      h (omega arith)

  pub kept_next : Kept l (next l q)
  kept_next =
      let j = l.journal in
      let at = l.kept.used in
      let low : at ≤ length j = omega (arith, room_within (length j)) in
      let long : length (over j at new) ≡ length j = over-length j at new (omega (arith, new_fits, room_within (length j))) in
      subst (Kept l) (sym (next_is l q))
      (record {
        as_long = long;
        grows = omega arith;
        fits = rw long new_fits;
        before = over-take j at new low;
        unused = over-drop j at new low;
        past = over_past j at new low 65536 (omega (arith, new_fits, room_most (length j)));
      })

-- ---- a run

run_within : (table j : List ℕ) (before : List (List ℕ)) → Within (after next (opened table j) before)
run_within table j before =
    after_keeps next Within (λ l h q. (kept_next l q h).fits) (opened table j) (omega arith) before

pub keeps_others : KeepsOthers
keeps_others table right j before q = kept_next (after next (opened table j) before) q (run_within table j before)
