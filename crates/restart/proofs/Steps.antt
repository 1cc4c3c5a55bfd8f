-- One record more, by its form; where the reading stops, and the pieces that are read.
use mathlib.Core.Path.{◌≡◌, refl, sym, ap, ◌∙◌}
use mathlib.Core.Bool.{Bool, true, false, cond}
use mathlib.Core.List.{List, []}
use Prim.Native.Nat.{ℕ, zero, suc, ◌+◌, ◌-◌, ◌*◌, ◌/◌, ◌≤◌, ◌<◌}
use native.Mathlib.Omega.{arith}
use lib.ListN.{set, get_or, length, take, drop}
use Rattle.std.proofs.lemmas.List.{drop-take, take-take}
use lib.Seq.{drop-drop, length-take-le}
use Rattle.std.specs.Simd.{first_chunks}
use native.Mathlib.Numerals.{add-one}
use Rattle.items.proofs.Tests.{by_cond, by_test, by_equal, clash}
use Rattle.runs.specs.Runs.{after}
use Rattle.runs.proofs.Grown.{after_more}
use Rattle.pieces.specs.Pieces.{eights_of}
use Rattle.records.specs.Records.{room}
use Rattle.records.proofs.Sizes.{room_within}
use Rattle.board.specs.Opening.{opening}
use Rattle.pieces.proofs.Eights.{eight_at}
use Rattle.words.specs.Bytes.{byte}
use Rattle.std.specs.Prelude.{Some, None}
use Rattle.restart.specs.Restart.{still, value_in, fits_item, fits_closing, item_read, closed, halted, read, Reading, unread, restored}

module _ (t : List ℕ) (at : Reading) (r : List ℕ) where
  pub stays : at.stopped ≡ true → at ≡ read t at r
  unfolding read
  stays h = rw h

  module _ (going : at.stopped ≡ false) where
    -- with its value and the lowest item that may come next
    pub takes : fits_item t at r ≡ true → (v n : ℕ) → v ≡ value_in r → n ≡ byte r 1 + 1
        → record {
          commits = at.commits;
          whole = at.whole;
          items = at.items + 1;
          next = n;
          values = set at.values (byte r 1) v;
          stopped = at.stopped;
        }
        ≡ read t at r
    unfolding read
    takes h v n p q = rw (h, p, q, going)

    module _ (other : fits_item t at r ≡ false) where
      -- with its number
      pub closes : fits_closing at r ≡ true → (n : ℕ) → n ≡ at.commits + 1
          → record { commits = n; whole = at.values; items = 0; next = 0; values = at.values; stopped = at.stopped } ≡ read t at r
      unfolding read
      closes h n q = rw (other, h, q, going)

      pub halts : fits_closing at r ≡ false → halted at ≡ read t at r
      unfolding read
      halts h = rw (other, h, going)

  -- a fact of every reading that one record more can leave
  pub by_form : (P : Reading → Type 0) → P at → (fits_item t at r ≡ true → P (item_read at (byte r 1) (value_in r))) → P (closed at) → P (halted at) → P (read t at r)
  unfolding read
  by_form P old item closing none =
      by_cond P at.stopped (λ e. old)
      (λ e. by_cond P (fits_item t at r) item (λ o. by_cond P (fits_closing at r) (λ h. closing) (λ h. none)))

-- one more record at the end of a reading
pub one_more : (t j : List ℕ) (at : Reading) (k : ℕ) → after (read t) at (eights_of j (k + 1)) ≡ read t (after (read t) at (eights_of j k)) (eight_at j k)
unfolding eights_of
one_more t j at k = rw add-one (after_more (read t) at (eights_of j k) (eight_at j k))

-- after it has stopped, nothing more is read
settled : (t j : List ℕ) (at : Reading) (k n : ℕ) → k ≤ n → (after (read t) at (eights_of j k)).stopped ≡ true → after (read t) at (eights_of j n) ≡ after (read t) at (eights_of j k)
settled t j at k zero h e = let same : zero ≡ k = omega arith in ap (λ (m : ℕ). after (read t) at (eights_of j m)) same
settled t j at k (suc n) h e =
    by_equal k (suc n) (λ same. ap (λ (m : ℕ). after (read t) at (eights_of j m)) (sym same))
    (λ ne.
    let before = settled t j at k n (omega arith) e in
    rw add-one at (one_more t j at n) ∙ ap (λ (s : Reading). read t s (eight_at j n)) before ∙ sym (stays t (after (read t) at (eights_of j k)) (eight_at j n) e))

-- a reading that is none has stopped, and one that is some is that one
has_stopped : {A : Type 0} (b : Bool) (x : A) → None ≡ cond b None (Some x) → b ≡ true
has_stopped true x e = refl
has_stopped false x e = cc

is_still : {A : Type 0} (b : Bool) (x y : A) → Some y ≡ cond b None (Some x) → y ≡ x
is_still true x y e = cc
is_still false x y e = cc

-- where a reading stops, what follows leaves it halted
halts_on : (t : List ℕ) (at : Reading) (r : List ℕ) → at.stopped ≡ false → None ≡ still (read t at r) → read t at r ≡ halted at
halts_on t at r on e =
    by_test (fits_item t at r)
    (λ h. clash (has_stopped at.stopped (item_read at (byte r 1) (value_in r)) (e ∙ ap still (sym (takes t at r on h (value_in r) (byte r 1 + 1) refl refl)))) on)
    (λ o.
    by_test (fits_closing at r)
    (λ h. clash (has_stopped at.stopped (closed at) (e ∙ ap still (sym (closes t at r on o h (at.commits + 1) refl)))) on)
    (λ h. sym (halts t at r on o h)))

module _ (t j : List ℕ) (at : Reading) (k : ℕ) (was : at ≡ after (read t) (unread (opening t).values) (eights_of j k)) where
  pub ends : (r : List ℕ) → k < room (length j) / 8 → at.stopped ≡ false → r ≡ eight_at j k → None ≡ still (read t at r) → restored t j ≡ halted at
  unfolding restored
  ends r h on piece e =
      let start = unread (opening t).values in
      let next : after (read t) start (eights_of j (k + 1)) ≡ halted at = one_more t j start k ∙ (λ i. read t (sym was i) (sym piece i)) ∙ halts_on t at r on e in
      settled t j start (k + 1) (room (length j) / 8) (omega arith) (ap (λ (s : Reading). s.stopped) next) ∙ next

  pub is_all : k ≡ room (length j) / 8 → restored t j ≡ at
  unfolding restored
  is_all h = rw (← h) (sym was)

-- where it goes on, the next reading is that of one record more
pub goes : (t j : List ℕ) (start at next : Reading) (k : ℕ) (r : List ℕ) → at ≡ after (read t) start (eights_of j k) → r ≡ eight_at j k → Some next ≡ still (read t at r)
    → next ≡ after (read t) start (eights_of j (k + 1))
goes t j start at next k r was piece e =
    is_still (read t at r).stopped (read t at r) next e ∙ (λ i. read t (was i) (piece i)) ∙ sym (one_more t j start k)

-- ---- the pieces that are read

chunk_at : (n : ℕ) (s : List ℕ) (k : ℕ) (d : List ℕ) → k < n → get_or (first_chunks 8 n s) k d ≡ eight_at s k
chunk_at zero s k d h = absurd (omega arith)
chunk_at (suc n) s zero d h = refl
chunk_at (suc n) s (suc k) d h =
    let e : 8 + 8 * k ≡ 8 * suc k = omega arith in
    chunk_at n (drop 8 s) k d (omega arith) ∙ ap (take 8) (drop-drop (8 * k) 8 s ∙ ap (λ (m : ℕ). drop m s) e)

within : (j : List ℕ) (m k : ℕ) → 8 * k + 8 ≤ m → eight_at (take m j) k ≡ eight_at j k
within j m k h =
    let e : m ≡ 8 * k + (m - 8 * k) = omega arith in
    ap (λ (n : ℕ). take 8 (drop (8 * k) (take n j))) e
    ∙ ap (take 8) (drop-take (8 * k) (m - 8 * k) j) ∙ take-take 8 (m - 8 * k) (drop (8 * k) j) (omega arith)

-- n items, the pieces of j
pub record Chunks (j : List ℕ) (items : List (List ℕ)) (n : ℕ) : Type 0 where
  pub long : length items ≡ n
  pub at : (k : ℕ) → k < n → get_or items k [] ≡ eight_at j k

-- those of a journal, as far as it is used
pub chunks : (j : List ℕ) (m : ℕ) (items : List (List ℕ)) → m ≡ room (length j) → items ≡ first_chunks 8 (length (take m j) / 8) (take m j)
    → length items ≡ length (take m j) / 8 → Chunks j items (room (length j) / 8)
chunks j m items used e counted =
    let l : length (take m j) ≡ m = length-take-le m j (omega (arith, room_within (length j))) in
    record {
      long = rw (l, used) at counted;
      at = λ k h.
          ap (λ (l : List (List ℕ)). get_or l k []) e
          ∙ chunk_at (length (take m j) / 8) (take m j) k [] (rw (l, used) h) ∙ within j m k (omega arith);
    }
