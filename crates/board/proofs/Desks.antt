-- What holds of each desk's record, and of the locks of two: a desk just freed or begun, a read and a write keep it. No board is in it.
use mathlib.Core.Path.{◌≡◌, refl, sym, ◌∙◌}
use mathlib.Core.Logic.{◌≢◌}
use mathlib.Core.Bool.{Bool, true, false, not, ◌&&◌, ◌||◌}
use mathlib.Core.List.{List}
use Prim.Native.Nat.{ℕ, ◌<◌, ◌≤◌}
use lib.ListN.{set, length, length-set}
use lib.Seq.{get_or-set_same, get_or-set_other}
use Rattle.items.specs.Items.{has, none}
use Rattle.items.specs.declared.Items.{Items}
use Rattle.items.proofs.Tests.{by_cond, by_equal, by_place, clash, or_left, or_right, or_both}
use Rattle.items.proofs.Laws.{has-none, with_same, with_other, with_less, without_other}
use Rattle.counters.specs.declared.Age.{Age}
use Rattle.counters.specs.declared.Number.{Number}
use Rattle.desks.specs.Desks.{blank, idle, beyond, desk_in, is_open, ageless, copy_of}
use Rattle.board.specs.Rules.{reading, writing}
use Rattle.desks.specs.declared.Desk.{Desk}

-- desk k holds item i, alone or shared
abbrev pub holds : Desk → ℕ → Bool
holds k i = has k.written i || has k.shared i

-- of one desk, where these items are guarded and this is the last number
pub record DeskSound (guarded : Items) (number : ℕ) (k : Desk) : Type 0 where
  pub started : k.start.0 ≤ number
  pub room : length k.copies ≡ 64
  pub unwritten : (i : ℕ) → has k.written i ≡ false → copy_of k i ≡ 0
  pub unread : (i : ℕ) → has guarded i ≡ true → has k.read i ≡ false
  pub closed : is_open k ≡ false → k ≡ idle k.age
  pub aged : is_open k ≡ true → ageless k ≡ false

-- m holds no guarded item that k has written
abbrev pub Excludes : Items → Desk → Desk → Type 0
Excludes guarded k m = (i : ℕ) → has guarded i ≡ true → has k.written i ≡ true → holds m i ≡ false

abbrev pub Locks : Items → List Desk → Type 0
Locks guarded desks = (d e : ℕ) → d < 16 → e < 16 → d ≢ e → Excludes guarded (desk_in desks d) (desk_in desks e)

-- one desk's record changes: what it and each other have to do with one another decides
pub locks_set :
    (guarded : Items) (desks : List Desk) → Locks guarded desks → (d : ℕ) (k : Desk) → d < length desks
    → ((e : ℕ) → e < 16 → e ≢ d → Excludes guarded k (desk_in desks e) × Excludes guarded (desk_in desks e) k)
    → Locks guarded (set desks d k)
locks_set guarded desks locks d k hd new e f he hf n =
    by_equal e d
    (λ p. rw (p, get_or-set_same desks d k beyond hd, get_or-set_other desks d f k beyond (λ q. n (p ∙ sym q))) (new f hf (λ q. n (p ∙ sym q))).0)
    (λ p.
    rw (get_or-set_other desks d e k beyond p)
    (by_equal f d
    (λ q. rw (q, get_or-set_same desks d k beyond hd) (new e he p).1)
    (λ q. rw (get_or-set_other desks d f k beyond q) (locks e f he hf n))))

-- ---- a desk that has done nothing

module _ (o : ℕ) (a : Age) (s : Number) where
  pub blank_excludes : (guarded : Items) (m : Desk) → Excludes guarded (blank o a s) m × Excludes guarded m (blank o a s)
  blank_excludes guarded m = ((λ i g w. clash w (has-none i)), (λ i g w. or_both (has none i) (has none i) (has-none i) (has-none i)))

  pub blank_sound :
      {guarded : Items} {number : ℕ} → s.0 ≤ number
      → (is_open (blank o a s) ≡ false → blank o a s ≡ idle a) → (is_open (blank o a s) ≡ true → ageless (blank o a s) ≡ false)
      → DeskSound guarded number (blank o a s)
  blank_sound started closed aged =
      record {
        started = started;
        room = refl;
        unwritten = λ i w. by_place (λ (v : ℕ). v ≡ 0) refl refl 64 i;
        unread = λ i g. has-none i;
        closed = closed;
        aged = aged;
      }

-- ---- a read of item i

module _ (guarded : Items) (k : Desk) (i : ℕ) where
  pub reading_sound : {number : ℕ} → DeskSound guarded number k → is_open k ≡ true → DeskSound guarded number (reading k i (has guarded i))
  reading_sound ok busy =
      record {
        started = ok.started;
        room = ok.room;
        unwritten = ok.unwritten;
        unread =
            λ j g.
            by_cond (λ (s : Items). has s j ≡ false) (has guarded i) (λ t. ok.unread j g)
            (λ f. with_other k.read i j (λ q. clash g (rw q f)) ∙ ok.unread j g);
        closed = λ f. clash busy f;
        aged = ok.aged;
      }

  -- item i is the one item that may be newly shared
  pub reading_excludes : (m : Desk) → (has guarded i ≡ true → has m.written i ≡ false) → Excludes guarded m k → Excludes guarded m (reading k i (has guarded i))
  reading_excludes m lock ex j g w =
      or_both (has k.written j) _ (or_left _ _ (ex j g w))
      (by_cond (λ (s : Items). has s j ≡ false) (has guarded i && not (has k.written i))
      (λ t. with_other k.shared i j (λ q. clash w (rw q (lock (rw (← q) g)))) ∙ or_right (has k.written j) _ (ex j g w))
      (λ f. or_right (has k.written j) _ (ex j g w)))

-- ---- a write of item i

module _ (guarded : Items) (k : Desk) (i v : ℕ) where
  pub writing_sound : {number : ℕ} → DeskSound guarded number k → is_open k ≡ true → DeskSound guarded number (writing k i v)
  writing_sound ok busy =
      record {
        started = ok.started;
        room = length-set k.copies i v ∙ ok.room;
        unwritten =
            λ j w.
            get_or-set_other k.copies i j v 0 (λ q. clash (with_same k.written i) (rw q at w))
            ∙ ok.unwritten j (with_less k.written i j w);
        unread = ok.unread;
        closed = λ f. clash busy f;
        aged = ok.aged;
      }

  -- nothing changes at another item
  pub writing_holds : (j : ℕ) → j ≢ i → holds (writing k i v) j ≡ holds k j
  writing_holds j n = rw (with_other k.written i j n, without_other k.shared i j n)

  module _ (m : Desk) (lock : has guarded i ≡ true → holds m i ≡ false) where
    pub writing_excludes : Excludes guarded k m → Excludes guarded (writing k i v) m
    writing_excludes ex j g w =
        by_equal j i (λ q. rw q (lock (rw (← q) g))) (λ n. ex j g (sym (with_other k.written i j n) ∙ w))

    pub excludes_writing : Excludes guarded m k → Excludes guarded m (writing k i v)
    excludes_writing ex j g w =
        by_equal j i (λ q. clash w (rw q (or_left _ _ (lock (rw (← q) g))))) (λ n. writing_holds j n ∙ ex j g w)
