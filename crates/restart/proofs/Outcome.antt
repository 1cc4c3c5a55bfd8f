-- A restart by its test of the table.
use Prim.Native.Nat.{ℕ}
use mathlib.Core.Path.{◌≡◌, ap, ◌∙◌}
use mathlib.Core.Bool.{true, false}
use mathlib.Core.List.{List}
use lib.IntN.{pos}
use Rattle.std.specs.Prelude.{Result, is_err}
use Rattle.table.specs.declared.WrongTable.{WrongTable}
use Rattle.table.specs.Table.{wrong}
use Rattle.table.proofs.Rows.{is_wrong}
use Rattle.restart.specs.Restart.{number_of, restored, with_values, Restarted, restarted}

module _ (t j : List ℕ) where
  pub refused : wrong t ≡ true → (r : Result ℕ WrongTable) → is_err r ≡ true → Restarted.told (number_of r) t ≡ restarted t j
  unfolding restarted
  refused h r e = ap (λ (r : Result ℕ WrongTable). Restarted.told (number_of r) t) (is_wrong r e) ∙ rw h

  -- of the rows that are read, the number returned and the table left
  pub resumed : wrong t ≡ false → (rows : List ℕ) → rows ≡ t → (n : ℕ) → n ≡ (restored rows j).commits → (vs : List ℕ) → vs ≡ (restored rows j).whole
      → (left : List ℕ) → left ≡ with_values t vs → Restarted.told (pos n) left ≡ restarted t j
  unfolding restarted
  resumed h rows same n counted vs values left put =
      (λ i. Restarted.told (pos (counted i)) (put i)) ∙ ap (λ (v : List ℕ). Restarted.told (pos (restored rows j).commits) (with_values t v)) values
      ∙ ap (λ (r : List ℕ). Restarted.told (pos (restored r j).commits) (with_values t (restored r j).whole)) same ∙ rw h
