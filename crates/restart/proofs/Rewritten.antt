-- The table with other values in its rows: what stands where.
use Prim.Native.Nat.{ℕ, zero, suc, ◌+◌, ◌*◌, ◌≤◌, ◌<◌}
use mathlib.Core.Path.{◌≡◌, refl, ap, sym, ◌∙◌, subst}
use mathlib.Core.List.{List}
use native.Mathlib.Omega.{arith}
use borrow.Author.Tests.{ltb-true, ltb-false}
use lib.Dec.{ltb}
use lib.ListN.{get_or, length}
use Rattle.items.proofs.Tests.{by_test, by_equal}
use Rattle.words.specs.Bytes.{Bytes, byte, word, word_at, four_bytes}
use Rattle.words.proofs.Fours.{four_tell, four_small}
use Rattle.table.specs.Table.{floor_at, ceiling_at, value_at}
use Rattle.pieces.specs.Pieces.{put_each}
use Rattle.records.specs.Records.{over}
use Rattle.records.proofs.Appended.{over-length, over_before, over_inside, over_after, over_small}
use Rattle.restart.specs.Restart.{with_values}

module _ (t vs : List ℕ) (long : length t ≡ 1024) where
  rewritten-length : (n : ℕ) → n ≤ 64 → length (put_each 8 16 t vs n) ≡ 1024
  unfolding put_each
  rewritten-length zero h = long
  rewritten-length (suc n) h =
      let before : length (put_each 8 16 t vs n) ≡ 1024 = rewritten-length n (omega arith) in
      over-length (put_each 8 16 t vs n) (16 * n + 8) (four_bytes (get_or vs n 0)) (omega arith) ∙ before

  -- row n is in the table
  row_in : (n : ℕ) → n < 64 → 16 * n + 8 ≤ length (put_each 8 16 t vs n)
  row_in n h = omega (arith, rewritten-length n (omega arith))

  -- a byte that is in no row's value
  rewritten_kept : (k : ℕ) → ((i : ℕ) → 16 * i + 8 ≤ k → 16 * i + 12 ≤ k) → (n : ℕ) → n ≤ 64 → get_or (put_each 8 16 t vs n) k 0 ≡ get_or t k 0
  unfolding put_each
  rewritten_kept k out zero h = refl
  rewritten_kept k out (suc n) h =
      let at = 16 * n + 8 in
      let before = put_each 8 16 t vs n in
      let four = four_bytes (get_or vs n 0) in
      by_test (ltb k at)
      (λ l. over_before before at four (row_in n (omega arith)) k (ltb-true k at l))
      (λ l. over_after before at four (row_in n (omega arith)) k (omega (arith, out n (ltb-false k at l))))
      ∙ rewritten_kept k out n (omega arith)

  -- byte m of the value of row i
  rewritten_value : (i m : ℕ) → m < 4 → (n : ℕ) → n ≤ 64 → i < n → get_or (put_each 8 16 t vs n) (16 * i + 8 + m) 0 ≡ get_or (four_bytes (get_or vs i 0)) m 0
  unfolding put_each
  rewritten_value i m low zero h l = absurd (omega arith)
  rewritten_value i m low (suc n) h l =
      let at = 16 * n + 8 in
      let before = put_each 8 16 t vs n in
      let four = four_bytes (get_or vs n 0) in
      by_equal i n
      (λ e.
      subst (λ (k : ℕ). get_or (over before at four) (16 * k + 8 + m) 0 ≡ get_or (four_bytes (get_or vs k 0)) m 0) (sym e)
      (over_inside before at four (row_in n (omega arith)) m low))
      (λ ne.
      over_before before at four (row_in n (omega arith)) (16 * i + 8 + m) (omega arith)
      ∙ rewritten_value i m low n (omega arith) (omega arith))

  rewritten_small : ((k : ℕ) → get_or t k 0 < 256) → (n : ℕ) → n ≤ 64 → (k : ℕ) → get_or (put_each 8 16 t vs n) k 0 < 256
  unfolding put_each
  rewritten_small small zero h = small
  rewritten_small small (suc n) h =
      over_small (put_each 8 16 t vs n) (16 * n + 8) (four_bytes (get_or vs n 0)) (row_in n (omega arith)) (rewritten_small small n (omega arith)) (four_small (get_or vs n 0))

  -- ---- the whole table

  pub table-length : length (with_values t vs) ≡ 1024
  table-length = rewritten-length 64 (omega arith)

  pub table_bytes : ((k : ℕ) → get_or t k 0 < 256) → Bytes 1024 (with_values t vs)
  table_bytes small = record { long = table-length; small = rewritten_small small 64 (omega arith) }

  pub byte_kept : (k : ℕ) → ((i : ℕ) → 16 * i + 8 ≤ k → 16 * i + 12 ≤ k) → byte (with_values t vs) k ≡ byte t k
  byte_kept k out = rewritten_kept k out 64 (omega arith)

  word_kept : (at : ℕ) → ((i m : ℕ) → m < 4 → 16 * i + 8 ≤ at + m → 16 * i + 12 ≤ at + m) → word_at (with_values t vs) at ≡ word_at t at
  word_kept at out =
      let first = byte_kept at (λ i l. omega (arith, out i 0 (omega arith) (omega arith))) in
      let second = byte_kept (at + 1) (λ i. out i 1 (omega arith)) in
      let third = byte_kept (at + 2) (λ i. out i 2 (omega arith)) in
      let fourth = byte_kept (at + 3) (λ i. out i 3 (omega arith)) in
      λ k. word (first k) (second k) (third k) (fourth k)

  pub floor_kept : (i : ℕ) → floor_at (with_values t vs) i ≡ floor_at t i
  floor_kept i = word_kept (16 * i) (λ n m h l. omega arith)

  pub ceiling_kept : (i : ℕ) → ceiling_at (with_values t vs) i ≡ ceiling_at t i
  ceiling_kept i = word_kept (16 * i + 4) (λ n m h l. omega arith)

  pub value_put : (i : ℕ) → i < 64 → get_or vs i 0 < 4294967296 → value_at (with_values t vs) i ≡ get_or vs i 0
  value_put i h small =
      let put : (m : ℕ) → m < 4 → byte (with_values t vs) (16 * i + 8 + m) ≡ byte (four_bytes (get_or vs i 0)) m = λ m low. rewritten_value i m low 64 (omega arith) h in
      let place : 16 * i + 8 ≡ 16 * i + 8 + 0 = omega arith in
      let first = ap (byte (with_values t vs)) place ∙ put 0 (omega arith) in
      let second = put 1 (omega arith) in
      let third = put 2 (omega arith) in
      let fourth = put 3 (omega arith) in
      (λ k. word (first k) (second k) (third k) (fourth k)) ∙ four_tell (get_or vs i 0) small
