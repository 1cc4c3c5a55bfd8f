-- What a request can see of a board: two boards that are alike in that give it the same answer.
use mathlib.Core.Path.{◌≡◌, refl, sym, ap, ap₂, ◌∙◌}
use mathlib.Core.Bool.{Bool, true, false, cond, not, ◌&&◌, ◌||◌, and-false}
use mathlib.Core.List.{List, [], ◌∷◌}
use Prim.Native.Nat.{ℕ, ◌<◌}
use borrow.Author.Tests.{eq-eqb}
use lib.ListN.{get_or}
use lib.Dec.{eqb, ltb, leb}
use Rattle.wire.specs.declared.Refusal.{Refusal}
use Rattle.wire.specs.declared.Refusal.TheVariants.{AlreadyOpen, NoAgeLeft}
use Rattle.wire.proofs.Checks.{unless_same}
use Rattle.std.specs.Prelude.{Ok, None, Option}
use Rattle.items.specs.Items.{has}
use Rattle.items.specs.declared.Items.{Items}
use Rattle.items.proofs.Tests.{clash, cond_same, and_right, or_left, or_right, or_in_right}
use Rattle.counters.specs.declared.Age.{Age}
use Rattle.counters.specs.declared.Number.{Number}
use Rattle.wire.specs.Checks.{◌fails◌, first_failing, unless}
use Rattle.wire.specs.Answers.{refused}
use Rattle.wire.specs.declared.Request.{Request}
use Rattle.wire.specs.declared.Request.TheVariants.{Begin, Read, Write, End, Abandon}
use Rattle.wire.specs.declared.Reason.TheVariants.{Yield}
use Rattle.wire.specs.declared.Answer.{Answer}
use Rattle.wire.specs.declared.Answer.TheVariants.{Opened, Value, Wait, Aborted}
use Rattle.desks.specs.Desks.{conflicts, in_the_way, holder, locked_by, locked, is_open, ageless, copy_of}
use Rattle.board.specs.Rules.{desk_at, is_guarded, refusal, ended, age_for, granted, answered, answer}
use Rattle.demands.specs.Demands.{bound, names, touched, concerns}
use Rattle.desks.specs.declared.Desk.{Desk}
use Rattle.board.specs.declared.Board.{Board}
use Rattle.desks.proofs.Eldest.{eldest_picked, eldest_same}
use Rattle.board.proofs.Granted.{low_item, checks_passed}

-- ---- a desk's record that has nothing to do with item i: what it has only read of open items, no other desk's request can see

pub record Untouched (k : Desk) (i : ℕ) : Type 0 where
  pub shared : has k.shared i ≡ false
  pub written : has k.written i ≡ false

pub untouched : (k : Desk) (i : ℕ) → touched k i ≡ false → Untouched k i
untouched k i h =
    let two = or_left (has k.read i || has k.shared i) (has k.written i) h in
    record {
      shared = or_right (has k.read i) (has k.shared i) two;
      written = or_right (has k.read i || has k.shared i) (has k.written i) h;
    }

-- ---- boards that are alike

-- another desk's record is the same, or has nothing to do with item i before and after
pub data Unmoved (i : ℕ) (k k' : Desk) : Type 0 where
  still : k ≡ k' → Unmoved i k k'
  clear : Untouched k i → Untouched k' i → Unmoved i k k'

-- as to item i
pub record AlikeAt (b c : Board) (i : ℕ) : Type 0 where
  pub guarded : is_guarded b i ≡ is_guarded c i
  pub value : get_or b.values i 0 ≡ get_or c.values i 0
  pub desks : (k : ℕ) → Unmoved i (desk_at b k) (desk_at c k)

-- what a write is tested against
abbrev Ranges : Type 0
Ranges = List ℕ × List ℕ

abbrev pub ranges : Board → Ranges
ranges b = (b.floors, b.ceilings)

-- what only a begin or an end looks at
abbrev Counts : Type 0
Counts = Age × Number × List Items

abbrev pub counts : Board → Counts
counts b = (b.age, b.number, b.sets)

-- for request r of desk d
pub record Alike (b c : Board) (d : ℕ) (r : Request) : Type 0 where
  pub desk : desk_at b d ≡ desk_at c d
  pub ranges_same : ranges b ≡ ranges c
  pub at : (i : ℕ) → i < 64 → concerns b (Ok (d, r)) i ≡ true → AlikeAt b c i
  pub counts_same : bound r ≡ true → counts b ≡ counts c

-- ---- locks

no_conflict : (k : Desk) (i : ℕ) (w : Bool) → Untouched k i → conflicts k i w ≡ false
no_conflict k i w u = rw (u.written, u.shared) (and-false w)

conflicts_same : (i : ℕ) (w : Bool) {k k' : Desk} → Unmoved i k k' → conflicts k i w ≡ conflicts k' i w
conflicts_same i w (still e) = ap (λ (k : Desk). conflicts k i w) e
conflicts_same i w {k} {k'} (clear h h') = no_conflict k i w h ∙ sym (no_conflict k' i w h')

age_same : (i : ℕ) (w : Bool) {k k' : Desk} → Unmoved i k k' → conflicts k i w ≡ true → k.age.0 ≡ k'.age.0
age_same i w (still e) t = ap (λ (k : Desk). k.age.0) e
age_same i w {k} (clear h h') t = clash t (no_conflict k i w h)

module _ (b c : Board) (d i : ℕ) (w : Bool) (a : AlikeAt b c i) where
  -- desk e is in the way of desk d, on a board
  abbrev way : Board → ℕ → Bool
  way x = in_the_way x.desks x.guarded d i w

  abbrev found : Board → ℕ
  found x = holder x.desks x.guarded d i w

  way_same : (e : ℕ) → way b e ≡ way c e
  way_same e = ap₂ (λ (g t : Bool). g && not (eqb e d) && t) a.guarded (conflicts_same i w (a.desks e))

  way_age : (e : ℕ) → way b e ≡ true → (desk_at b e).age.0 ≡ (desk_at c e).age.0
  way_age e t = age_same i w (a.desks e) (and_right (is_guarded b i && not (eqb e d)) (conflicts (desk_at b e) i w) t)

  found_same : found b ≡ found c
  found_same = eldest_same (way b) (way c) (λ e. (desk_at b e).age.0) (λ e. (desk_at c e).age.0) way_same way_age 16

  found_age : eqb (found b) 16 ≡ false → (desk_at b (found b)).age.0 ≡ (desk_at c (found b)).age.0
  found_age f = way_age (found b) (eldest_picked (way b) (λ e. (desk_at b e).age.0) 16 f)

  locked_same : desk_at b d ≡ desk_at c d → {x y : Answer} → x ≡ y → locked b.desks b.guarded d i w x ≡ locked c.desks c.guarded d i w y
  locked_same own {x} {y} e =
      cond_same (eqb (found b) 16) (λ none. e)
      (λ some. ap₂ (λ (m n : ℕ). cond (ltb m n) (Wait i (found b)) (Aborted (Yield i (found b)))) (ap (λ (k : Desk). k.age.0) own) (found_age some))
      ∙ ap (locked_by c.desks d i y) found_same

-- ---- the answer

module _ (b c : Board) (d : ℕ) where
  named_alike : (r : Request) → Alike b c d r → (i : ℕ) → ltb 63 i ≡ false → names r i ≡ true → AlikeAt b c i
  named_alike r a i low h = a.at i (low_item i low) (or_in_right (touched (desk_at b d) i) (names r i) h)

  refusal_same : (r : Request) → Alike b c d r → refusal b d r ≡ refusal c d r
  refusal_same Begin a =
      ap₂ (λ (k : Desk) (n : Counts). first_failing (is_open k fails AlreadyOpen ∷ (ageless k && leb 2000 n.0.0) fails NoAgeLeft ∷ [])) a.desk (a.counts_same refl)
  refusal_same (Read i) a = rw a.desk
  refusal_same (Write i v) a =
      rw (a.desk, ap (λ (t : Ranges). t.0) a.ranges_same, ap (λ (t : Ranges). t.1) a.ranges_same)
  refusal_same End a = rw a.desk
  refusal_same Abandon a = rw a.desk

  granted_same : (r : Request) → Alike b c d r → refusal b d r ≡ None → granted b d r ≡ granted c d r
  granted_same Begin a ok = ap₂ (λ (k : Desk) (n : Counts). Opened (age_for k n.0) n.1) a.desk (a.counts_same refl)
  granted_same (Read i) a ok =
      let at = named_alike (Read i) a i (checks_passed b d (Read i) ok).1.0 (eq-eqb i i refl) in
      locked_same b c d i false at a.desk
      (ap₂ (λ (k : Desk) (v : ℕ). Value i (cond (has k.written i) (copy_of k i) v)) a.desk at.value)
  granted_same (Write i v) a ok =
      locked_same b c d i true (named_alike (Write i v) a i (checks_passed b d (Write i v) ok).1.0 (eq-eqb i i refl)) a.desk refl
  granted_same End a ok = ap₂ (λ (k : Desk) (n : Counts). ended n.2 n.1 k) a.desk (a.counts_same refl)
  granted_same Abandon a ok = refl

  pub answer_same : (r : Request) → Alike b c d r → answer b (Ok (d, r)) ≡ answer c (Ok (d, r))
  unfolding answered answer
  answer_same r a =
      unless_same (refusal b d r) refused (granted_same r a)
      ∙ ap (λ (o : Option Refusal). unless o refused (granted c d r)) (refusal_same r a)
