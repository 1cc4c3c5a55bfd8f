-- Committed transactions and their replay, one after another, alone on the values. No board is in any of it.
-- Lists are kept latest first, as a run extends them.
use Rattle.std.specs.Prelude.{ℕ, ◌+◌, ◌≡◌, List, [], ◌∷◌, get_or, set, length}

-- an item was read and this value given; an item was written with this value
pub data Op : Type 0 where
  got : ℕ → ℕ → Op
  put : ℕ → ℕ → Op

-- a committed transaction: its number, and what it did
pub record Transaction : Type 0 where
  pub number : ℕ
  pub ops : List Op

-- ---- one transaction

-- the values after its operations
abbrev pub replayed : List ℕ → List Op → List ℕ
replayed vs [] = vs
replayed vs (got i v ∷ l) = replayed vs l
replayed vs (put i v ∷ l) = set (replayed vs l) i v

-- each read finds the value it was given
abbrev pub Fits : List ℕ → List Op → Type 0
Fits vs [] = Unit {0}
Fits vs (got i v ∷ l) = (get_or (replayed vs l) i 0 ≡ v) × Fits vs l
Fits vs (put i v ∷ l) = Fits vs l

-- ---- one after another

-- the values after some transactions
abbrev pub replayed_all : List ℕ → List Transaction → List ℕ
replayed_all vs [] = vs
replayed_all vs (t ∷ ts) = replayed (replayed_all vs ts) t.ops

-- each fits the values that those before it leave
abbrev pub Serial : List ℕ → List Transaction → Type 0
Serial vs [] = Unit {0}
Serial vs (t ∷ ts) = Fits (replayed_all vs ts) t.ops × Serial vs ts

-- they are in the order of their numbers, which are 1, 2, 3 and on
abbrev pub Numbered : List Transaction → Type 0
Numbered [] = Unit {0}
Numbered (t ∷ ts) = (t.number ≡ length ts + 1) × Numbered ts

-- replaying them in number order from the opening values gives each read the value it was given and ends with these values
pub record Replayed (opening values : List ℕ) (done : List Transaction) : Type 0 where
  pub numbered : Numbered done
  pub serial : Serial opening done
  pub same : replayed_all opening done ≡ values
