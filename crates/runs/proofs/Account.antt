-- What a desk's record says of its log, item by item. Nothing here knows a board: the record is read through functions of an item.
--   value    the board's value now
--   relies   the desk relies on the item: by its read set or by its locks
--   stale    what the desk has read of the item may be overwritten
--   written  the desk has written the item
--   copy     the value that it has written
use mathlib.Core.Path.{◌≡◌, refl, sym, ◌∙◌}
use mathlib.Core.Logic.{◌≢◌}
use mathlib.Core.Bool.{Bool, true, false, cond}
use mathlib.Core.List.{List, [], ◌∷◌}
use Prim.Native.Nat.{ℕ, ◌<◌}
use borrow.Author.Tests.{eq-eqb, ne_eqb}
use Rattle.runs.specs.Replay.{Op, got, put}
use Rattle.items.proofs.Tests.{by_test, by_equal, clash}
use Rattle.runs.proofs.Log.{value_at, FitsAt, wrote, InRange}

pub record Account (value : ℕ → ℕ) (relies stale written : ℕ → Bool) (copy : ℕ → ℕ) (l : List Op) : Type 0 where
  pub in_range : InRange 64 l
  pub puts : (i : ℕ) → wrote l i ≡ written i
  pub last : (i x : ℕ) → value_at i x l ≡ cond (written i) (copy i) x
  pub free : (i : ℕ) → relies i ≡ false → (x : ℕ) → FitsAt i x l
  pub fresh : (i : ℕ) → stale i ≡ false → FitsAt i (value i) l

-- a desk that has done nothing
pub account_none : {value : ℕ → ℕ} {relies stale written : ℕ → Bool} {copy : ℕ → ℕ} → ((i : ℕ) → written i ≡ false) → Account value relies stale written copy []
account_none none =
    record {
      in_range = tt;
      puts = λ i. sym (none i);
      last = λ i x. rw (none i);
      free = λ i r x. tt;
      fresh = λ i s. tt;
    }

module _ {value : ℕ → ℕ} {relies stale written : ℕ → Bool} {copy : ℕ → ℕ} {l : List Op} (k : Account value relies stale written copy l) where
  -- it reads item i, and from then on relies on it
  pub account_got :
      {relies' : ℕ → Bool} (i v : ℕ)
      → i < 64
      → v ≡ cond (written i) (copy i) (value i)
      → relies' i ≡ true
      → ((j : ℕ) → relies' j ≡ false → relies j ≡ false)
      → Account value relies' stale written copy (got i v ∷ l)
  account_got i v h seen held more =
      record {
        in_range = (h, k.in_range);
        puts = k.puts;
        last = k.last;
        free = λ j r x. ((λ e. clash held (rw e r)), k.free j (more j r) x);
        fresh = λ j s. ((λ e. rw (← e) (k.last i (value i) ∙ sym seen)), k.fresh j s);
      }

  -- it writes item i
  pub account_put :
      {relies' written' : ℕ → Bool} {copy' : ℕ → ℕ} (i v : ℕ)
      → i < 64
      → written' i ≡ true
      → copy' i ≡ v
      → ((j : ℕ) → j ≢ i → written' j ≡ written j)
      → ((j : ℕ) → j ≢ i → copy' j ≡ copy j)
      → ((j : ℕ) → relies' j ≡ false → relies j ≡ false)
      → Account value relies' stale written' copy' (put i v ∷ l)
  account_put {written'} {copy'} i v h this stored others kept more =
      record {
        in_range = (h, k.in_range);
        puts = λ j. by_equal i j (λ e. rw (eq-eqb i j e, ← e) (sym this)) (λ n. rw (ne_eqb i j n) (k.puts j ∙ sym (others j (λ e. n (sym e)))));
        last =
            λ j x.
            by_equal i j
            (λ e. rw (eq-eqb i j e, ← e, this, stored) refl)
            (λ n. rw (ne_eqb i j n, others j (λ e. n (sym e)), kept j (λ e. n (sym e))) (k.last j x));
        free = λ j r x. k.free j (more j r) x;
        fresh = k.fresh;
      }

  -- the world changes under it: what it relies on, and is not stale now, was not stale before and keeps its value
  pub account_moved :
      {value' : ℕ → ℕ} {relies' stale' : ℕ → Bool}
      → ((i : ℕ) → relies' i ≡ false → relies i ≡ false)
      → ((i : ℕ) → stale' i ≡ false → relies i ≡ true → (stale i ≡ false) × (value' i ≡ value i))
      → Account value' relies' stale' written copy l
  account_moved {value'} more stays =
      record {
        in_range = k.in_range;
        puts = k.puts;
        last = k.last;
        free = λ i r. k.free i (more i r);
        fresh = λ i s. by_test (relies i) (λ r. rw (stays i s r).1 (k.fresh i (stays i s r).0)) (λ r. k.free i r (value' i));
      }

  -- where it relies on nothing stale, its log fits the values
  pub account_fits : (i : ℕ) → (relies i ≡ true → stale i ≡ false) → FitsAt i (value i) l
  account_fits i sound = by_test (relies i) (λ r. k.fresh i (sound r)) (λ r. k.free i r (value i))
