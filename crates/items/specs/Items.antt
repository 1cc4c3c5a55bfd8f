-- Sets of the items 0 to 63, as bitmasks: item i is in s where the binary digit i of s is 1.
-- Other crates' proofs go by the laws (proofs/Laws.antt) and leave these definitions shut.
-- An example that is to be computed says `unfolding sets`, which opens them all.
use Rattle.std.specs.Prelude.{Bool, not, ℕ, zero, suc, ◌+◌, ◌/◌, ◌%◌, ◌^◌, cond, eqb}
use Rattle.std.specs.Int.Bits.{bit_and, bit_or, bit_xor}
use Rattle.items.specs.First.{first, any, every}
use Rattle.items.specs.declared.Items.{Items}

-- item i is in s
unfoldable pub has : Items → ℕ → Bool
has s i = eqb (s.0 / 2 ^ i % 2) 1

-- no item
abbrev pub none : Items
none = record { 0 = 0 }

-- the items of both
unfoldable pub common : Items → Items → Items
common s t = record { 0 = bit_and s.0 t.0 }

-- the items of either
unfoldable pub joined : Items → Items → Items
joined s t = record { 0 = bit_or s.0 t.0 }

-- the items of s, and item i
unfoldable pub with : Items → ℕ → Items
with s i = record { 0 = bit_or s.0 (2 ^ i) }

-- the items of s but for item i
unfoldable pub without : Items → ℕ → Items
without s i = record { 0 = bit_xor s.0 (bit_and s.0 (2 ^ i)) }

-- the lowest item in s, 64 where there is none
unfoldable pub lowest : Items → ℕ
lowest s = first 64 (has s)

-- no item is in s
unfoldable pub empty : Items → Bool
empty s = not (any 64 (has s))

-- how many of the items below n are in s
unfoldable pub count_below : Items → ℕ → ℕ
count_below s zero = 0
count_below s (suc n) = count_below s n + cond (has s n) 1 0

-- opens all of them
unfoldable pub sets : Unit {0}
unfolding first any every has with without common joined lowest empty count_below
sets = tt
