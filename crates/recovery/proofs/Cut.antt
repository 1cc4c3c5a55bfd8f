-- The restart after any cut: it reads the records that are whole within the cut, and those that close nothing leave what was read before them.
use Prim.Native.Nat.{ℕ, ◌*◌, ◌/◌, ◌≤◌, ◌<◌}
use mathlib.Core.Path.{◌≡◌, refl, ap, sym, ◌∙◌, subst}
use mathlib.Core.Logic.{◌≢◌}
use mathlib.Core.Bool.{cond}
use mathlib.Core.List.{List, [], ◌∷◌}
use native.Mathlib.Omega.{arith}
use borrow.Author.Tests.{leb-true, leb-false, lt-ltb}
use lib.Dec.{leb, ltb}
use lib.IntN.{pos, neg_ℤ}
use lib.ListN.{length, take}
use lib.Seq.{take-take, take_all, length-take-le, get_or-take}
use Rattle.items.proofs.Tests.{by_test, by_cond}
use Rattle.runs.specs.Runs.{after}
use Rattle.words.specs.Bytes.{Bytes, byte}
use Rattle.table.specs.Table.{wrong}
use Rattle.board.specs.Opening.{opening}
use Rattle.board.specs.declared.Board.{Board}
use Rattle.pieces.specs.Pieces.{eights_of}
use Rattle.records.specs.Records.{room}
use Rattle.records.proofs.Sizes.{room_most, room_within}
use Rattle.journal.specs.Journal.{Ledger, opened, next}
use Rattle.restart.specs.Restart.{Reading, unread, read, restored, with_values, told, restarted}
use Rattle.restart.specs.Restarts.{fresh_with}
use Rattle.restart.proofs.Restarts.{restarted_opens}
use Rattle.recovery.specs.Cuts.{within, board_within, Cuts, Resumes, ReadsNoFurther}
use Rattle.recovery.proofs.Growth.{kept_next}
use Rattle.recovery.proofs.Pieces.{same_front}
use Rattle.recovery.proofs.Quiet.{quiet}
use Rattle.recovery.proofs.Held.{Held, held_step, items_step, opened_held}

-- as many commits are whole as b has numbers, with its values
abbrev Tells : Board → Reading → Type 0
Tells b at = (at.commits ≡ b.number.0) × (at.whole ≡ b.values)

module _ (t : List ℕ) (bytes : Bytes 1024 t) where
  abbrev start : Reading
  start = unread (opening t).values

  -- what is read of the first n records
  abbrev read_of : List ℕ → ℕ → Reading
  read_of j n = after (read t) start (eights_of j n)

  -- a run keeps the bytes that are used
  run_long : (qs : List (List ℕ)) (l : Ledger) → Held t l → length (after next l qs).journal ≡ length l.journal
  run_long [] l held = refl
  run_long (q ∷ qs) l held = run_long qs (next l q) (held_step t bytes l held q) ∙ (kept_next l q held.most).as_long

  run_front : (qs : List (List ℕ)) (l : Ledger) → Held t l → take l.kept.used (after next l qs).journal ≡ take l.kept.used l.journal
  run_front [] l held = refl
  run_front (q ∷ qs) l held =
      let then = next l q in
      let w = kept_next l q held.most in
      let u = l.kept.used in
      sym (take-take u then.kept.used (after next then qs).journal w.grows) ∙ ap (take u) (run_front qs then (held_step t bytes l held q))
      ∙ take-take u then.kept.used then.journal w.grows ∙ w.before

  -- of a journal that begins with l's records, and then has none that closes a commit
  tells_on : (l : Ledger) (held : Held t l) (j : List ℕ) (n : ℕ) → held.count ≤ n → eights_of j held.count ≡ eights_of l.journal held.count
      → ((k : ℕ) → held.count ≤ k → k < n → byte j (8 * k) ≢ 2) → Tells l.kept.board (read_of j n)
  tells_on l held j n le pieces none =
      let same = quiet t start j held.count n le none in
      let e = ap (after (read t) start) pieces ∙ held.told in
      (same.0 ∙ ap (λ (r : Reading). r.commits) e, same.1 ∙ ap (λ (r : Reading). r.whole) e)

  -- n is the number of records within the cut
  module _ (cut n : ℕ) (inside : 8 * n ≤ cut) where
    -- l has no more records than that
    counts : (l : Ledger) (held : Held t l) → l.kept.used ≤ cut → ((k : ℕ) → 8 * k ≤ room (length l.journal) → 8 * k ≤ cut → k ≤ n) → held.count ≤ n
    counts l held from all = all held.count (omega (arith, held.used, held.most)) (omega (arith, held.used))

    cut_run : (qs : List (List ℕ)) (l : Ledger) → Held t l → l.kept.used ≤ cut → 8 * n ≤ room (length l.journal)
        → ((k : ℕ) → 8 * k ≤ room (length l.journal) → 8 * k ≤ cut → k ≤ n)
        → Tells (board_within cut l qs) (read_of (after next l qs).journal n)
    cut_run [] l held from most all =
        tells_on l held l.journal n (counts l held from all) refl
        (λ k low high two. absurd (omega (arith, two, held.zeros (8 * k) (omega (arith, held.used)) (omega arith))))
    cut_run (q ∷ qs) l held from most all =
        let then = next l q in
        let held' = held_step t bytes l held q in
        let w = kept_next l q held.most in
        let j = (after next then qs).journal in
        by_test (leb then.kept.used cut)
        (λ yes.
        let on : within cut l (q ∷ qs) ≡ q ∷ within cut then qs = rw yes in
        subst (λ (rs : List (List ℕ)). Tells (after next l rs).kept.board (read_of j n)) (sym on)
        (cut_run qs then held' (leb-true then.kept.used cut yes) (rw w.as_long most) (λ k a c. all k (rw w.as_long at a) c)))
        (λ no.
        let none : within cut l (q ∷ qs) ≡ [] = rw no in
        let past : cut < then.kept.used = leb-false then.kept.used cut no in
        let u = l.kept.used in
        let long : length j ≡ length l.journal = run_long (q ∷ qs) l held in
        let few : u ≤ length l.journal = omega (arith, held.most, room_within (length l.journal)) in
        let few' : then.kept.used ≤ length then.journal = omega (arith, held'.most, room_within (length then.journal)) in
        subst (λ (rs : List (List ℕ)). Tells (after next l rs).kept.board (read_of j n)) (sym none)
        (tells_on l held j n (counts l held from all)
        (same_front j l.journal u held.count (run_front (q ∷ qs) l held) (omega (arith, held.used)) (rw long few) few)
        (λ k low high two.
        let at = 8 * k in
        let there : at < then.kept.used = omega arith in
        let same : byte j at ≡ byte then.journal at = sym (get_or-take then.kept.used j at 0 there) ∙ ap (λ (r : List ℕ). byte r at) (run_front qs then held') ∙ get_or-take then.kept.used then.journal at 0 there in
        absurd (omega (arith, two, same, items_step t bytes l held q k (omega (arith, held.used)) (omega arith))))))

-- ---- a cut

room_least : (x y : ℕ) → x ≤ 65536 → x ≤ y → x ≤ room y
room_least x y h g = by_cond (λ (m : ℕ). x ≤ m) (ltb 65536 y) (λ e. h) (λ e. g)

module _ (c : ℕ) (j : List ℕ) where
  cut_length : (length (take c j) ≤ c) × (length (take c j) ≤ length j)
  cut_length =
      by_test (leb c (length j))
      (λ e. rw (length-take-le c j (leb-true c (length j) e)) (omega arith, leb-true c (length j) e))
      (λ e. let past : length j < c = leb-false c (length j) e in rw (take_all c j (omega arith)) (omega arith, omega arith))

  cut_least : (x : ℕ) → x ≤ c → x ≤ length j → x ≤ length (take c j)
  cut_least x h g =
      by_test (leb c (length j)) (λ e. rw (length-take-le c j (leb-true c (length j) e)) h)
      (λ e. let past : length j < c = leb-false c (length j) e in rw (take_all c j (omega arith)) g)

-- what is read of the cut
read_cut : (t : List ℕ) → Bytes 1024 t → (journal : List ℕ) (requests : List (List ℕ)) (cut : ℕ)
    → Tells (board_within cut (opened t journal) requests) (restored t (take cut (after next (opened t journal) requests).journal))
unfolding restored
read_cut t bytes journal requests cut =
    let l = opened t journal in
    let held = opened_held t journal in
    let j = (after next l requests).journal in
    let long : length j ≡ length l.journal = run_long t bytes requests l held in
    let piece = take cut j in
    let n = room (length piece) / 8 in
    let short = cut_length cut j in
    let few : 8 * n ≤ length piece = omega (arith, room_within (length piece)) in
    let most : 8 * n ≤ room (length l.journal) = room_least (8 * n) (length l.journal) (omega (arith, room_most (length piece))) (omega arith) in
    let all : (k : ℕ) → 8 * k ≤ room (length l.journal) → 8 * k ≤ cut → k ≤ n = λ k a b.
    let within_room : 8 * k ≤ room (length piece) = room_least (8 * k) (length piece) (omega (arith, a, room_most (length l.journal))) (cut_least cut j (8 * k) b (omega (arith, a, long, room_within (length l.journal)))) in
    omega (arith, within_room) in
    let tells = cut_run t bytes cut n (omega arith) requests l held (omega arith) most all in
    let same : eights_of piece n ≡ eights_of j n = same_front piece j (8 * n) n (take-take (8 * n) cut j (omega arith)) (omega arith) few (omega arith) in
    let whole = ap (after (read t) (unread (opening t).values)) same in
    (ap (λ (r : Reading). r.commits) whole ∙ tells.0, ap (λ (r : Reading). r.whole) whole ∙ tells.1)

pub cuts : Cuts
unfolding restarted
cuts t bytes right journal requests cut =
    let tells = read_cut t bytes journal requests cut in
    rw right (λ i. told (pos (tells.0 i)) (with_values t (tells.1 i)))

pub resumes : Resumes
resumes t bytes right journal requests cut =
    restarted_opens t (take cut (after next (opened t journal) requests).journal) bytes right
    ∙ ap (fresh_with t) (read_cut t bytes journal requests cut).1

-- ---- no further than the room

reads_within : (t j : List ℕ) → restored t (take 65536 j) ≡ restored t j
unfolding restored
reads_within t j =
    by_test (leb (length j) 65536) (λ e. ap (restored t) (take_all 65536 j (leb-true (length j) 65536 e)))
    (λ e.
    let past : 65536 < length j = leb-false (length j) 65536 e in
    let long : length (take 65536 j) ≡ 65536 = length-take-le 65536 j (omega arith) in
    let same : eights_of (take 65536 j) 8192 ≡ eights_of j 8192 = same_front (take 65536 j) j 65536 8192 (take-take 65536 65536 j (omega arith)) (omega arith) (omega arith) (omega arith) in
    rw (long, lt-ltb 65536 (length j) past) (ap (after (read t) (unread (opening t).values)) same))

pub reads_no_further : ReadsNoFurther
unfolding restarted
reads_no_further t j = ap (λ (at : Reading). cond (wrong t) (told (neg_ℤ (pos 10)) t) (told (pos at.commits) (with_values t at.whole))) (reads_within t j)
