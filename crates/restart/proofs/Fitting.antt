-- Whether a record fits: what decides it, and what is so of one that does.
use mathlib.Core.Path.{◌≡◌}
use mathlib.Core.Bool.{true, false, ◌&&◌}
use mathlib.Core.List.{List}
use Prim.Native.Nat.{ℕ, ◌+◌, ◌≤◌}
use borrow.Author.Tests.{le-leb, eq-eqb, ne_eqb, leb-true, eqb-true}
use lib.Dec.{eqb, leb}
use Rattle.items.proofs.Tests.{and_left, and_right}
use Rattle.words.specs.Bytes.{byte}
use Rattle.table.specs.Table.{floor_at, ceiling_at}
use Rattle.restart.specs.Restart.{number_in, value_in, fits_item, fits_closing, Reading}

-- ---- an item's record

module _ (t : List ℕ) (at : Reading) (r : List ℕ) where
  pub no_item : (byte r 0 ≡ 1 → ⊥) → false ≡ fits_item t at r
  unfolding fits_item
  no_item h = rw (ne_eqb (byte r 0) 1 h)

  -- one that fits but for its ceiling
  pub by_ceiling : byte r 0 ≡ 1 → at.next ≤ byte r 1 → byte r 1 ≤ 63 → number_in r ≡ at.commits + 1 → floor_at t (byte r 1) ≤ value_in r
      → (v u : ℕ) → v ≡ value_in r → u ≡ ceiling_at t (byte r 1) → leb v u ≡ fits_item t at r
  unfolding fits_item
  by_ceiling kind next below numbered floor v u p q =
      rw (
        p,
        q,
        eq-eqb (byte r 0) 1 kind,
        le-leb at.next (byte r 1) next,
        le-leb (byte r 1) 63 below,
        eq-eqb (number_in r) (at.commits + 1) numbered,
        le-leb (floor_at t (byte r 1)) (value_in r) floor,
      )

-- what is so of one that fits
pub record Fits (t : List ℕ) (at : Reading) (r : List ℕ) : Type 0 where
  pub next : at.next ≤ byte r 1
  pub below : byte r 1 ≤ 63
  pub floor : floor_at t (byte r 1) ≤ value_in r
  pub ceiling : value_in r ≤ ceiling_at t (byte r 1)

pub fitting : (t : List ℕ) (at : Reading) (r : List ℕ) → fits_item t at r ≡ true → Fits t at r
unfolding fits_item
fitting t at r e =
    let item = eqb (byte r 0) 1 in
    let after = leb at.next (byte r 1) in
    let placed = item && after in
    let under = leb (byte r 1) 63 in
    let numbered = eqb (number_in r) (at.commits + 1) in
    let above_floor = leb (floor_at t (byte r 1)) (value_in r) in
    let below_ceiling = leb (value_in r) (ceiling_at t (byte r 1)) in
    let to_floor = and_left (placed && under && numbered && above_floor) below_ceiling e in
    let to_below = and_left (placed && under) numbered (and_left (placed && under && numbered) above_floor to_floor) in
    record {
      next = leb-true at.next (byte r 1) (and_right item after (and_left placed under to_below));
      below = leb-true (byte r 1) 63 (and_right placed under to_below);
      floor = leb-true (floor_at t (byte r 1)) (value_in r) (and_right (placed && under && numbered) above_floor to_floor);
      ceiling = leb-true (value_in r) (ceiling_at t (byte r 1)) (and_right (placed && under && numbered && above_floor) below_ceiling e);
    }

-- ---- a closing record

module _ (at : Reading) (r : List ℕ) where
  pub no_closing : (byte r 0 ≡ 2 → ⊥) → false ≡ fits_closing at r
  unfolding fits_closing
  no_closing h = rw (ne_eqb (byte r 0) 2 h)

  -- one that fits but for its count
  pub by_count : byte r 0 ≡ 2 → byte r 1 ≡ 0 → number_in r ≡ at.commits + 1 → (v : ℕ) → v ≡ value_in r → eqb v at.items ≡ fits_closing at r
  unfolding fits_closing
  by_count kind zeroed h v p = rw (p, eq-eqb (byte r 0) 2 kind, eq-eqb (byte r 1) 0 zeroed, eq-eqb (number_in r) (at.commits + 1) h)

-- what is so of one that fits
pub closing : (at : Reading) (r : List ℕ) → fits_closing at r ≡ true → number_in r ≡ at.commits + 1
unfolding fits_closing
closing at r e =
    let kind = eqb (byte r 0) 2 && eqb (byte r 1) 0 in
    let numbered = eqb (number_in r) (at.commits + 1) in
    eqb-true (number_in r) (at.commits + 1) (and_right kind numbered (and_left (kind && numbered) (eqb (value_in r) at.items) e))
