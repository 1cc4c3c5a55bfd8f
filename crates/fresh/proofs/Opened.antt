-- What a host is left with, by what an opening gives.
use mathlib.Core.Path.{◌≡◌}
use mathlib.Core.List.{List}
use Prim.Native.Nat.{ℕ}
use lib.IntN.{pos, neg_ℤ}
use Rattle.std.specs.Prelude.{Ok, Err}
use Rattle.items.proofs.Tests.{by_test}
use Rattle.table.specs.Table.{wrong}
use Rattle.table.specs.declared.WrongTable.{WrongTable}
use Rattle.journal.specs.Journal.{fresh}
use Rattle.journal.specs.declared.Journaled.{Journaled}
use Rattle.fresh.specs.Fresh.{opened_of, opened_by}

module _ (s : Journaled) (t : List ℕ) where
  pub opens : (b : Journaled) → Ok b ≡ opened_of t → (pos 0 ≡ (opened_by s t).code) × (b ≡ (opened_by s t).board)
  unfolding opened_of opened_by
  opens b e =
      by_test (wrong t) (λ w. let f : Ok b ≡ Err (record {}) = rw w at e in cc)
      (λ w. let f : Ok b ≡ Ok (fresh t) = rw w at e in (rw w, rw w (cc)))

  pub refuses : (x : WrongTable) → Err x ≡ opened_of t → (neg_ℤ (pos 10) ≡ (opened_by s t).code) × (s ≡ (opened_by s t).board)
  unfolding opened_of opened_by
  refuses x e =
      by_test (wrong t) (λ w. (rw w, rw w))
      (λ w. let f : Err x ≡ Ok (fresh t) = rw w at e in cc)
