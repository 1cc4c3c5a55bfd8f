-- A row of the opening table, test by test: the first that fails decides, and where all pass the row is right.
use mathlib.Core.Path.{◌≡◌, refl, sym, ◌∙◌}
use mathlib.Core.Bool.{Bool, true, false, ◌&&◌}
use mathlib.Core.List.{List}
use Prim.Native.Nat.{ℕ, ◌+◌, ◌*◌, ◌≤◌, ◌<◌}
use borrow.Author.Tests.{le-leb, lt-leb, eq-eqb, ne_eqb, ltb-true, ltb-false, eqb-true, not-false}
use lib.Dec.{eqb, ltb}
use lib.ListN.{length}
use Rattle.std.specs.Prelude.{Result, Ok, Err, is_err}
use Rattle.table.specs.declared.WrongTable.{WrongTable}
use Rattle.items.specs.First.{every}
use Rattle.items.proofs.Tests.{by_test, by_equal, clash, and_right}
use Rattle.items.proofs.First.{every_at, every_is, every_not}
use Rattle.words.specs.Bytes.{byte}
use Rattle.table.specs.Table.{floor_at, ceiling_at, value_at, kind_at, row_right, wrong, checked}

module _ (t : List ℕ) (i : ℕ) where
  pub below_floor : value_at t i < floor_at t i → false ≡ row_right t i
  unfolding row_right
  below_floor h = rw (lt-leb (floor_at t i) (value_at t i) h)

  module _ (floor : floor_at t i ≤ value_at t i) where
    pub above_ceiling : ceiling_at t i < value_at t i → false ≡ row_right t i
    unfolding row_right
    above_ceiling h = rw (le-leb (floor_at t i) (value_at t i) floor, lt-leb (value_at t i) (ceiling_at t i) h)

    module _ (ceiling : value_at t i ≤ ceiling_at t i) where
      pub no_kind : 1 < kind_at t i → false ≡ row_right t i
      unfolding row_right
      no_kind h =
          rw (le-leb (floor_at t i) (value_at t i) floor, le-leb (value_at t i) (ceiling_at t i) ceiling, lt-leb (kind_at t i) 1 h)

      module _ (kind : kind_at t i ≤ 1) where
        -- the last three bytes are left
        spare : row_right t i ≡ (eqb (byte t (16 * i + 13)) 0 && eqb (byte t (16 * i + 14)) 0 && eqb (byte t (16 * i + 15)) 0)
        unfolding row_right
        spare =
            rw (le-leb (floor_at t i) (value_at t i) floor, le-leb (value_at t i) (ceiling_at t i) ceiling, le-leb (kind_at t i) 1 kind)

        pub spare_13 : (byte t (16 * i + 13) ≡ 0 → ⊥) → false ≡ row_right t i
        spare_13 h = sym (spare ∙ rw (ne_eqb (byte t (16 * i + 13)) 0 h))

        pub spare_14 : byte t (16 * i + 13) ≡ 0 → (byte t (16 * i + 14) ≡ 0 → ⊥) → false ≡ row_right t i
        spare_14 e h = sym (spare ∙ rw (e, ne_eqb (byte t (16 * i + 14)) 0 h))

        pub spare_15 : byte t (16 * i + 13) ≡ 0 → byte t (16 * i + 14) ≡ 0 → eqb (byte t (16 * i + 15)) 0 ≡ row_right t i
        spare_15 e f = sym (spare ∙ rw (e, f))

-- ---- what a right row has, and a row that has it is right

pub record Row (t : List ℕ) (i : ℕ) : Type 0 where
  pub floor : floor_at t i ≤ value_at t i
  pub ceiling : value_at t i ≤ ceiling_at t i
  pub kind : kind_at t i ≤ 1
  pub spare_13 : byte t (16 * i + 13) ≡ 0
  pub spare_14 : byte t (16 * i + 14) ≡ 0
  pub spare_15 : byte t (16 * i + 15) ≡ 0

-- what would make a test false is not so where it is true
not_below : {b : Bool} → b ≡ true → (m n : ℕ) → (m < n → false ≡ b) → n ≤ m
not_below e m n h = by_test (ltb m n) (λ l. clash e (sym (h (ltb-true m n l)))) (λ l. ltb-false m n l)

not_other : {b : Bool} → b ≡ true → (m n : ℕ) → ((m ≡ n → ⊥) → false ≡ b) → m ≡ n
not_other e m n h = by_equal m n (λ q. q) (λ q. clash e (sym (h q)))

pub row_holds : (t : List ℕ) (i : ℕ) → row_right t i ≡ true → Row t i
row_holds t i e =
    let floor = not_below e (value_at t i) (floor_at t i) (below_floor t i) in
    let ceiling = not_below e (ceiling_at t i) (value_at t i) (above_ceiling t i floor) in
    let kind = not_below e 1 (kind_at t i) (no_kind t i floor ceiling) in
    let first = not_other e (byte t (16 * i + 13)) 0 (spare_13 t i floor ceiling kind) in
    let second = not_other e (byte t (16 * i + 14)) 0 (spare_14 t i floor ceiling kind first) in
    let third = eqb-true (byte t (16 * i + 15)) 0 (spare_15 t i floor ceiling kind first second ∙ e) in
    record { floor = floor; ceiling = ceiling; kind = kind; spare_13 = first; spare_14 = second; spare_15 = third }

pub holds_row : (t : List ℕ) (i : ℕ) → Row t i → row_right t i ≡ true
holds_row t i r =
    sym (spare_15 t i r.floor r.ceiling r.kind r.spare_13 r.spare_14) ∙ eq-eqb (byte t (16 * i + 15)) 0 r.spare_15

-- ---- the whole table

module _ (t : List ℕ) where
  pub wrong-length : (length t ≡ 1024 → ⊥) → true ≡ wrong t
  unfolding wrong
  wrong-length h = rw (ne_eqb (length t) 1024 h)

  module _ (long : length t ≡ 1024) where
    pub wrong_row : (i : ℕ) → i < 64 → row_right t i ≡ false → true ≡ wrong t
    unfolding wrong
    wrong_row i h e = rw (long, every_not 64 (row_right t) i h e)

    pub wrong_none : ((i : ℕ) → i < 64 → row_right t i ≡ true) → false ≡ wrong t
    unfolding wrong
    wrong_none all = rw (long, every_is 64 (row_right t) all)

-- what the check of it gives; an error passed on is the only one there is
pub is_wrong : {A : Type 0} (r : Result A WrongTable) → is_err r ≡ true → r ≡ Err (record {})
is_wrong (Ok x) h = cc
is_wrong (Err e) h = refl

-- what `checked` is of a table that is wrong, by its length or by a row, and of one whose rows are all right
pub checked_wrong : (t : List ℕ) → wrong t ≡ true → Err (record {}) ≡ checked t
unfolding checked
checked_wrong t e = rw (e, checked)

module _ (t : List ℕ) where
  pub checked_length : (length t ≡ 1024 → ⊥) → Err (record {}) ≡ checked t
  checked_length h = checked_wrong t (sym (wrong-length t h))

  module _ (long : length t ≡ 1024) where
    pub checked_row : (i : ℕ) → i < 64 → row_right t i ≡ false → Err (record {}) ≡ checked t
    checked_row i h e = checked_wrong t (sym (wrong_row t long i h e))

    pub checked_rows : ((i : ℕ) → i < 64 → row_right t i ≡ true) → Ok t ≡ checked t
    unfolding checked
    checked_rows all = rw (← wrong_none t long all) refl

-- what the rows are that it gives
pub checked_is : (t rows : List ℕ) → Ok rows ≡ checked t → (rows ≡ t) × (wrong t ≡ false)
unfolding checked
checked_is t rows e =
    by_test (wrong t) (λ w. let f : Ok rows ≡ Err (record {}) = rw w at e in cc) (λ w. let f : Ok rows ≡ Ok t = rw w at e in (cc, w))

pub checked_not : (t : List ℕ) (e : WrongTable) → Err e ≡ checked t → wrong t ≡ true
unfolding checked
checked_not t x e = by_test (wrong t) (λ w. w) (λ w. let f : Err x ≡ Ok t = rw w at e in cc)

-- what a table that is not wrong has
pub right_long : (t : List ℕ) → wrong t ≡ false → length t ≡ 1024
right_long t e = by_equal (length t) 1024 (λ long. long) (λ h. clash (sym (wrong-length t h)) e)

pub right_row : (t : List ℕ) → wrong t ≡ false → (i : ℕ) → i < 64 → Row t i
unfolding wrong
right_row t e i h =
    row_holds t i (every_at 64 (row_right t) (and_right (eqb (length t) 1024) (every 64 (row_right t)) (not-false _ e)) i h)
