-- Pieces put into a buffer one after another, from index `at` on.
use Prim.Native.Nat.{ℕ, ◌+◌, ◌-◌, ◌≤◌, ◌<◌}
use mathlib.Core.Path.{◌≡◌, ap, sym, ◌∙◌}
use mathlib.Core.List.{List, [], ◌++◌, append_assoc}
use native.Mathlib.Omega.{arith}
use borrow.Author.Tests.{ltb-true, ltb-false}
use lib.Dec.{ltb}
use lib.ListN.{length, take, drop, get_or, length-append, get_or-append}
use lib.Seq.{paste-zero, take-length, length-take-le, length-paste, get_or-take, get_or-drop, get_or-append-add}
use Rattle.items.proofs.Tests.{by_test}
use Rattle.pieces.proofs.Buffers.{grows}
use Rattle.records.specs.Records.{over}

-- the buffer before them, they, and the buffer after them
pub over_is : (j : List ℕ) (at : ℕ) (s : List ℕ) → over j at s ≡ take at j ++ s ++ drop (at + length s) j
over_is j at s = ap (λ (l : List ℕ). take at j ++ l ++ drop (at + length s) j) (take-length s)

pub over-length : (j : List ℕ) (at : ℕ) (s : List ℕ) → at + length s ≤ length j → length (over j at s) ≡ length j
over-length j at s h = length-paste j at s (length s) h (omega arith)

pub over_none : (j : List ℕ) (at : ℕ) → over j at [] ≡ j
over_none j at = sym (paste-zero j at [])

-- up to the end of the piece
front_length : (j : List ℕ) (at : ℕ) (s : List ℕ) → at ≤ length j → length (take at j ++ s) ≡ at + length s
front_length j at s h = length-append (take at j) s ∙ ap (λ (k : ℕ). k + length s) (length-take-le at j h)

pub over_more : (j : List ℕ) (at : ℕ) (s s' : List ℕ) (n : ℕ) → at ≤ length j → n ≡ at + length s → over (over j at s) n s' ≡ over j at (s ++ s')
over_more j at s s' n h e =
    let front : length (take at j ++ s) ≡ n = front_length j at s h ∙ sym e in
    let end : n + length s' ≡ at + length (s ++ s') = rw length-append (omega arith) in
    ap (λ (l : List ℕ). over l n s') (over_is j at s ∙ ap (λ (k : ℕ). take at j ++ s ++ drop k j) (sym e))
    ∙ grows (take at j ++ s) j s' n front
    ∙ (λ i. append_assoc (take at j) s s' i ++ drop (end i) j) ∙ sym (over_is j at (s ++ s'))

-- ---- byte by byte

module _ (j : List ℕ) (at : ℕ) (s : List ℕ) (h : at ≤ length j) where
  parts : (k : ℕ) → get_or (over j at s) k 0 ≡ get_or (take at j ++ s ++ drop (at + length s) j) k 0
  parts k = ap (λ (l : List ℕ). get_or l k 0) (over_is j at s)

  -- in the buffer before the piece or in the piece
  in_front : (k : ℕ) → k < at + length s → get_or (over j at s) k 0 ≡ get_or (take at j ++ s) k 0
  in_front k l = parts k ∙ get_or-append (take at j ++ s) (drop (at + length s) j) 0 k (omega (arith, front_length j at s h))

  pub over_before : (k : ℕ) → k < at → get_or (over j at s) k 0 ≡ get_or j k 0
  over_before k l =
      in_front k (omega arith) ∙ get_or-append (take at j) s 0 k (omega (arith, length-take-le at j h)) ∙ get_or-take at j k 0 l

  pub over_inside : (i : ℕ) → i < length s → get_or (over j at s) (at + i) 0 ≡ get_or s i 0
  over_inside i l =
      in_front (at + i) (omega arith)
      ∙ ap (λ (n : ℕ). get_or (take at j ++ s) (n + i) 0) (sym (length-take-le at j h)) ∙ get_or-append-add (take at j) s i 0

  pub over_after : (k : ℕ) → at + length s ≤ k → get_or (over j at s) k 0 ≡ get_or j k 0
  over_after k l =
      let n = k - (at + length s) in
      let past : k ≡ length (take at j ++ s) + n = omega (arith, front_length j at s h) in
      let there : at + length s + n ≡ k = omega arith in
      parts k
      ∙ ap (λ (m : ℕ). get_or (take at j ++ s ++ drop (at + length s) j) m 0) past
      ∙ get_or-append-add (take at j ++ s) (drop (at + length s) j) n 0
      ∙ get_or-drop (at + length s) j n 0 ∙ ap (λ (m : ℕ). get_or j m 0) there

  -- bytes over bytes are bytes
  pub over_small : ((k : ℕ) → get_or j k 0 < 256) → ((k : ℕ) → get_or s k 0 < 256) → (k : ℕ) → get_or (over j at s) k 0 < 256
  over_small js ss k =
      by_test (ltb k at) (λ l. rw (over_before k (ltb-true k at l)) (js k))
      (λ l.
      let from : at ≤ k = ltb-false k at l in
      by_test (ltb k (at + length s))
      (λ u.
      let within : k < at + length s = ltb-true k (at + length s) u in
      let e : k ≡ at + (k - at) = omega arith in
      rw (ap (λ (m : ℕ). get_or (over j at s) m 0) e ∙ over_inside (k - at) (omega arith)) (ss (k - at)))
      (λ u. rw (over_after k (ltb-false k (at + length s) u)) (js k)))
