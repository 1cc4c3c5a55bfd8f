-- What a journal holds after any run: the records of the commits, from which the board's number and values are read; and zeros.
use Prim.Native.Nat.{ℕ, zero, suc, ◌+◌, ◌-◌, ◌*◌, ◌≤◌, ◌<◌}
use mathlib.Core.Path.{◌≡◌, refl, ap, sym, ◌∙◌, subst}
use mathlib.Core.Bool.{true}
use mathlib.Core.List.{List, [], ◌∷◌, ◌++◌, append_assoc}
use native.Mathlib.Omega.{arith}
use lib.ListN.{length, drop, get_or, replicate, length-append, length-replicate, length-drop}
use lib.Seq.{get_or-append-add}
use Rattle.items.specs.Items.{has, count_below}
use Rattle.items.specs.declared.Items.{Items}
use Rattle.items.proofs.Tests.{by_test}
use Rattle.counters.specs.declared.Number.{Number}
use Rattle.runs.specs.Runs.{after}
use Rattle.words.specs.Bytes.{Bytes, byte}
use Rattle.wire.specs.Requests.{Decoded, decode, desk_of, value_of}
use Rattle.table.specs.Table.{floor_at, ceiling_at}
use Rattle.wire.specs.declared.Answer.{Answer}
use Rattle.wire.specs.declared.Answer.TheVariants.{Refused, Opened, Value, Stored, Wait, Committed, Abandoned, Aborted}
use Rattle.desks.specs.Desks.{copy_of}
use Rattle.desks.specs.declared.Desk.{Desk}
use Rattle.board.specs.Rules as Rules
use Rattle.board.specs.Rules.{follow}
use Rattle.board.specs.Opening.{opening}
use Rattle.board.specs.declared.Board.{Board}
use Rattle.board.proofs.Filled.{column_at}
use Rattle.board.proofs.Sound.{Sound, opening_sound, step_sound}
use Rattle.board.proofs.Reached.{sound_counted}
use Rattle.board.proofs.Bounds.{desk_low}
use Rattle.board.proofs.Granted.{Granted, answer-granted}
use Rattle.pieces.specs.Pieces.{eights_of, in_one}
use Rattle.pieces.proofs.Eights.{EightLong, in_one-length}
use Rattle.records.specs.Records.{record_of, item_record, item_records, entry, size_of, room, over}
use Rattle.records.proofs.Appended.{over_none, over-length, over_inside, over_after}
use Rattle.records.proofs.Sizes.{in_one-append, room_within}
use Rattle.journal.specs.Journal.{limited, asking, answer_in, added, step, journal_after, cleared, Ledger, opened, next}
use Rattle.journal.proofs.Room.{limited_ways, limited_room, limited_twice, added_size}
use Rattle.restart.specs.Restart.{Reading, unread, read}
use Rattle.recovery.proofs.Step.{followed}
use Rattle.recovery.proofs.Pieces.{put_after, long_more}
use Rattle.recovery.proofs.Entry.{clean, after_two, entry_read}
use Rattle.recovery.proofs.Copies.{Copied, Stores, answer_stores, follow_copied, opening_copied}

-- ---- the answer: a commit, or one that leaves the values, the number and the journal

pub by_commit : (P : Answer → Type 0) (b : Board) (q : Decoded) (k : Desk)
    → ((a : Answer) → (follow b q a).values ≡ b.values → (follow b q a).number ≡ b.number → added k a ≡ [] → P a) → ((n : Number) → P (Committed n))
    → (a : Answer) → P a
unfolding follow
by_commit P b q k other commit (Refused n) = other (Refused n) refl refl refl
by_commit P b q k other commit (Opened a s) = other (Opened a s) refl refl refl
by_commit P b q k other commit (Value i v) = other (Value i v) refl refl refl
by_commit P b q k other commit (Stored i) = other (Stored i) refl refl refl
by_commit P b q k other commit (Wait i e) = other (Wait i e) refl refl refl
by_commit P b q k other commit (Committed n) = commit n
by_commit P b q k other commit Abandoned = other Abandoned refl refl refl
by_commit P b q k other commit (Aborted w) = other (Aborted w) refl refl refl

-- the limits never change
limits_stay : (b : Board) (q : Decoded) (a : Answer) → ((follow b q a).floors ≡ b.floors) × ((follow b q a).ceilings ≡ b.ceilings)
unfolding follow
limits_stay b q (Refused n) = (refl, refl)
limits_stay b q (Opened a s) = (refl, refl)
limits_stay b q (Value i v) = (refl, refl)
limits_stay b q (Stored i) = (refl, refl)
limits_stay b q (Wait i e) = (refl, refl)
limits_stay b q (Committed n) = (refl, refl)
limits_stay b q Abandoned = (refl, refl)
limits_stay b q (Aborted w) = (refl, refl)

-- ---- a commit's records begin with 1, but for the last

abbrev Marked : List (List ℕ) → Type 0
Marked [] = Unit {0}
Marked (r ∷ rs) = ((length r ≡ 8) × (byte r 0 ≡ 1)) × Marked rs

marked_more : (ps qs : List (List ℕ)) → Marked ps → Marked qs → Marked (ps ++ qs)
marked_more [] qs p q = q
marked_more (x ∷ ps) qs p q = (p.0, marked_more ps qs p.1 q)

marked_long : (rs : List (List ℕ)) → Marked rs → EightLong rs
marked_long [] m = tt
marked_long (r ∷ rs) m = (m.0.0, marked_long rs m.1)

items_marked : (w : Items) (f : ℕ → ℕ) (n i : ℕ) → Marked (item_records w f n i)
unfolding item_records
items_marked w f n zero = tt
items_marked w f n (suc i) =
    marked_more (item_records w f n i) (item_record w i n (f i)) (items_marked w f n i)
    (by_test (has w i) (λ e. rw e ((refl, refl), tt)) (λ e. rw e tt))

head_byte : (r x : List ℕ) → length r ≡ 8 → byte (r ++ x) 0 ≡ byte r 0
head_byte [] x e = absurd (omega arith)
head_byte (y ∷ r) x e = refl

marked_byte : (rs : List (List ℕ)) → Marked rs → (x : List ℕ) (i : ℕ) → 8 * i < length (in_one rs) → byte (in_one rs ++ x) (8 * i) ≡ 1
marked_byte [] m x i h = absurd (omega arith)
marked_byte (r ∷ rs) m x zero h = ap (λ (l : List ℕ). byte l 0) (append_assoc r (in_one rs) x) ∙ head_byte r (in_one rs ++ x) m.0.0 ∙ m.0.1
marked_byte (r ∷ rs) m x (suc i) h =
    let at : 8 * suc i ≡ length r + 8 * i = omega (arith, m.0.0) in
    ap (λ (l : List ℕ). byte l (8 * suc i)) (append_assoc r (in_one rs) x) ∙ ap (byte (r ++ (in_one rs ++ x))) at ∙ get_or-append-add r (in_one rs ++ x) (8 * i) 0
    ∙ marked_byte rs m.1 x i (omega (arith, in_one-length rs (marked_long rs m.1), in_one-length (r ∷ rs) (marked_long (r ∷ rs) m)))

-- ---- one request

-- what is so of the answer that is given, with this much room
pub record Given (l : Ledger) (q : Decoded) (a : Answer) : Type 0 where
  pub sound : Sound (follow l.kept.board q a)
  pub stores : Stores l.kept.board (value_of q) a
  pub granted : Granted l.kept.board (desk_of q) a
  pub stands : limited (l.kept.used + size_of (asking l.kept q).written) (room (length l.journal)) a ≡ a

given : (l : Ledger) (q : List ℕ) → Sound l.kept.board → Given l (decode q) (answer_in l.kept (length l.journal) (decode q))
unfolding answer_in Rules.step follow
given l q sound =
    let d = decode q in
    let b = l.kept.board in
    let need = l.kept.used + size_of (asking l.kept d).written in
    let most = room (length l.journal) in
    record {
      sound = limited_ways need most (λ (a : Answer). Sound (follow b d a)) (Rules.answer b d) (step_sound sound q) (λ _ _ _. sound);
      stores = limited_ways need most (Stores b (value_of d)) (Rules.answer b d) (answer_stores b d) (λ _ _ _. tt);
      granted = limited_ways need most (Granted b (desk_of d)) (Rules.answer b d) (answer-granted b d) (λ _ _ _. tt);
      stands = limited_twice need most (Rules.answer b d);
    }

-- what a journal holds: of `count` records, the board's number and values; and zeros after them
pub record Held (t : List ℕ) (l : Ledger) : Type 0 where
  pub sound : Sound l.kept.board
  pub floors : l.kept.board.floors ≡ (opening t).floors
  pub ceilings : l.kept.board.ceilings ≡ (opening t).ceilings
  pub copies : Copied l.kept.board l.kept.board.desks
  pub count : ℕ
  pub used : l.kept.used ≡ 8 * count
  pub most : l.kept.used ≤ room (length l.journal)
  pub zeros : (k : ℕ) → l.kept.used ≤ k → k < room (length l.journal) → byte l.journal k ≡ 0
  pub told : after (read t) (unread (opening t).values) (eights_of l.journal count) ≡ clean l.kept.board.number.0 l.kept.board.values

-- of the bytes that one request adds, each record but the last begins with 1
abbrev pub ItemsFirst : Ledger → Ledger → Type 0
ItemsFirst l then = (k : ℕ) → l.kept.used ≤ 8 * k → 8 * k + 8 < then.kept.used → byte then.journal (8 * k) ≡ 1

-- the limits, in the table's words
floor_at_lem : (t : List ℕ) (i : ℕ) → i < 64 → get_or (opening t).floors i 0 ≡ floor_at t i
unfolding opening
floor_at_lem t i h = column_at (floor_at t) i h

ceiling_at_lem : (t : List ℕ) (i : ℕ) → i < 64 → get_or (opening t).ceilings i 0 ≡ ceiling_at t i
unfolding opening
ceiling_at_lem t i h = column_at (ceiling_at t) i h

module _ (t : List ℕ) (bytes : Bytes 1024 t) (l : Ledger) (held : Held t l) (q : Decoded) (low : desk_of q < 16) where
  abbrev b : Board
  b = l.kept.board

  abbrev k : Desk
  k = asking l.kept q

  abbrev j : List ℕ
  j = l.journal

  abbrev used : ℕ
  used = l.kept.used

  -- the copies, in the table's words
  floor : (i : ℕ) → i < 64 → has k.written i ≡ true → floor_at t i ≤ copy_of k i
  floor i h e = subst (λ (v : ℕ). v ≤ copy_of k i) (ap (λ (s : List ℕ). get_or s i 0) held.floors ∙ floor_at_lem t i h) (held.copies (desk_of q) i h e).0

  ceiling : (i : ℕ) → i < 64 → has k.written i ≡ true → copy_of k i ≤ ceiling_at t i
  ceiling i h e = subst (λ (v : ℕ). copy_of k i ≤ v) (ap (λ (s : List ℕ). get_or s i 0) held.ceilings ∙ ceiling_at_lem t i h) (held.copies (desk_of q) i h e).1

  small : (i : ℕ) → i < 64 → has k.written i ≡ true → copy_of k i < 4294967296
  small i h e =
      let at = 16 * i + 4 in
      omega (arith, ceiling i h e, bytes.small at, bytes.small (at + 1), bytes.small (at + 2), bytes.small (at + 3))

  copies_after : (a : Answer) → Given l q a → Copied (follow b q a) (follow b q a).desks
  copies_after a g = follow_copied b q (held.sound.desks.each (desk_of q) low).room held.copies a g.stores

  -- where nothing is added
  module _ (a : Answer) (values : (follow b q a).values ≡ b.values) (number : (follow b q a).number ≡ b.number) (none : added k a ≡ []) where
    as_used : used + length (added k a) ≡ used
    as_used = rw none (omega arith)

    as_was : over j used (added k a) ≡ j
    as_was = ap (over j used) none ∙ over_none j used

    calm_held : Given l q a → Held t (followed l q a)
    calm_held g =
        record {
          sound = g.sound;
          floors = (limits_stay b q a).0 ∙ held.floors;
          ceilings = (limits_stay b q a).1 ∙ held.ceilings;
          copies = copies_after a g;
          count = held.count;
          used = as_used ∙ held.used;
          most = subst (λ (s : List ℕ). used + length (added k a) ≤ room (length s)) (sym as_was) (omega (arith, as_used, held.most));
          zeros = λ i from to. ap (λ (s : List ℕ). byte s i) as_was ∙ held.zeros i (omega (arith, as_used, from)) (subst (λ (s : List ℕ). i < room (length s)) as_was to);
          told = ap (λ (s : List ℕ). after (read t) (unread (opening t).values) (eights_of s held.count)) as_was ∙ held.told ∙ (λ i. clean (sym number i).0 (sym values i));
        }

    calm_items : ItemsFirst l (followed l q a)
    calm_items i from to = absurd (omega (arith, as_used))

  -- where a commit's records are
  module _ (n : Number) (g : Given l q (Committed n)) where
    abbrev items : List (List ℕ)
    items = item_records k.written (copy_of k) n.0 64

    abbrev es : List (List ℕ)
    es = entry k.written (copy_of k) n.0

    es_long : EightLong es
    es_long = long_more items (record_of 2 0 n.0 (count_below k.written 64) ∷ []) (marked_long items (items_marked k.written (copy_of k) n.0 64)) (refl, tt)

    es_bytes : length (in_one es) ≡ 8 * length es
    es_bytes = in_one-length es es_long

    fits : used + length (in_one es) ≤ room (length j)
    fits = omega (arith, added_size k n, limited_room (used + size_of k.written) (room (length j)) n g.stands)

    fits_long : used + length (in_one es) ≤ length j
    fits_long = omega (arith, fits, room_within (length j))

    same_long : length (over j used (in_one es)) ≡ length j
    same_long = over-length j used (in_one es) fits_long

    numbered : n.0 ≡ b.number.0 + 1
    numbered = g.granted.next

    below : b.number.0 + 1 < 65536
    below =
        let counted = sound_counted held.sound in
        omega (arith, counted.ahead (desk_of q) low g.granted.busy, counted.limit)

    read_on : after (read t) (unread (opening t).values) (eights_of (over j used (in_one es)) (held.count + length es)) ≡ clean n.0 (Rules.installed k.written (copy_of k) b.values)
    read_on =
        ap (λ (at : ℕ). after (read t) (unread (opening t).values) (eights_of (over j at (in_one es)) (held.count + length es))) held.used
        ∙ ap (after (read t) (unread (opening t).values)) (put_after j held.count es es_long (omega (arith, held.used, held.most, room_within (length j))) (held.count + length es) refl)
        ∙ after_two (read t) (unread (opening t).values) (eights_of j held.count) es
        ∙ ap (λ (at : Reading). after (read t) at es) held.told
        ∙ ap (λ (m : ℕ). after (read t) (clean b.number.0 b.values) (entry k.written (copy_of k) m)) numbered
        ∙ entry_read t k.written (copy_of k) b.number.0 b.values below floor ceiling small
        ∙ ap (λ (m : ℕ). clean m (Rules.installed k.written (copy_of k) b.values)) (sym numbered)

    commit_held : Held t (followed l q (Committed n))
    unfolding follow
    commit_held =
        record {
          sound = g.sound;
          floors = held.floors;
          ceilings = held.ceilings;
          copies = copies_after (Committed n) g;
          count = held.count + length es;
          used = omega (arith, held.used, es_bytes);
          most = rw same_long fits;
          zeros = λ i from to. over_after j used (in_one es) (omega (arith, fits_long)) i from ∙ held.zeros i (omega arith) (subst (λ (m : ℕ). i < room m) same_long to);
          told = read_on;
        }

    -- its bytes are those of the items and then the closing record's
    closing : List ℕ
    closing = record_of 2 0 n.0 (count_below k.written 64)

    item_byte : ItemsFirst l (followed l q (Committed n))
    unfolding closing
    item_byte i from to =
        let m = i - held.count in
        let at : 8 * i ≡ used + 8 * m = omega (arith, held.used) in
        let two : in_one es ≡ in_one items ++ in_one (closing ∷ []) = in_one-append items (closing ∷ []) in
        let long : length (in_one es) ≡ length (in_one items) + 8 = ap length two ∙ length-append (in_one items) (in_one (closing ∷ [])) in
        ap (byte (over j used (in_one es))) at ∙ over_inside j used (in_one es) (omega (arith, fits_long)) (8 * m) (omega arith)
        ∙ ap (λ (s : List ℕ). byte s (8 * m)) two ∙ marked_byte items (items_marked k.written (copy_of k) n.0 64) (in_one (closing ∷ [])) m (omega arith)

-- ---- every request, and the opening

module _ (t : List ℕ) (bytes : Bytes 1024 t) (l : Ledger) (held : Held t l) (q : List ℕ) where
  pub held_step : Held t (next l q)
  unfolding step journal_after
  held_step =
      by_commit (λ (a : Answer). Given l (decode q) a → Held t (followed l (decode q) a)) l.kept.board (decode q) (asking l.kept (decode q))
      (calm_held t bytes l held (decode q) (desk_low q)) (commit_held t bytes l held (decode q) (desk_low q))
      (answer_in l.kept (length l.journal) (decode q)) (given l q held.sound)

  pub items_step : ItemsFirst l (next l q)
  unfolding step journal_after
  items_step =
      by_commit (λ (a : Answer). Given l (decode q) a → ItemsFirst l (followed l (decode q) a)) l.kept.board (decode q) (asking l.kept (decode q))
      (λ a values number none g. calm_items t bytes l held (decode q) (desk_low q) a values number none) (item_byte t bytes l held (decode q) (desk_low q))
      (answer_in l.kept (length l.journal) (decode q)) (given l q held.sound)

zero_front : (n : ℕ) (x : List ℕ) (k : ℕ) → k < n → get_or (replicate n 0 ++ x) k 0 ≡ 0
zero_front zero x k h = absurd (omega arith)
zero_front (suc n) x zero h = refl
zero_front (suc n) x (suc k) h = zero_front n x k (omega arith)

cleared_long : (j : List ℕ) → length (cleared j) ≡ length j
cleared_long j = length-append (replicate (room (length j)) 0) (drop (room (length j)) j) ∙ rw (length-replicate, length-drop) (omega (arith, room_within (length j)))

pub opened_held : (t journal : List ℕ) → Held t (opened t journal)
unfolding opening eights_of
opened_held t journal =
    record {
      sound = opening_sound t;
      floors = refl;
      ceilings = refl;
      copies = opening_copied t;
      count = 0;
      used = refl;
      most = omega arith;
      zeros = λ k from to. zero_front (room (length journal)) (drop (room (length journal)) journal) k (subst (λ (m : ℕ). k < room m) (cleared_long journal) to);
      told = refl;
    }
