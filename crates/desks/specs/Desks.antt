-- Outline, "Records of a desk and of the board", the part of a desk; and "Locks".
use Rattle.std.specs.Prelude.{ℕ, zero, suc, ◌≡◌, refl, Bool, true, cond, not, ◌&&◌, ◌||◌, List, [], ◌∷◌, get_or, replicate, Option, Some, None, eqb, ltb}
use Rattle.items.specs.Items.{none, has}
use Rattle.items.specs.declared.Items.{Items}
use Rattle.counters.specs.Counters.{no_age, no_number}
use Rattle.counters.specs.declared.Age.{Age}
use Rattle.counters.specs.declared.Number.{Number}
use Rattle.wire.specs.declared.Reason.TheVariants.{Yield}
use Rattle.wire.specs.declared.Answer.{Answer}
use Rattle.wire.specs.declared.Answer.TheVariants.{Wait, Aborted}
use Rattle.desks.specs.declared.Desk.{Desk}

-- ---- records of a desk

-- nothing read, held or written
abbrev pub blank : ℕ → Age → Number → Desk
blank o a s = record { busy = o; age = a; start = s; read = none; shared = none; written = none; copies = replicate 64 0 }

-- a transaction just begun
abbrev pub opened : Age → Number → Desk
opened a s = blank 1 a s

-- a desk with nothing open: all of it at zero or empty, but for an age a that it keeps from an abort; no_age where it keeps none
abbrev pub idle : Age → Desk
idle a = blank 0 a no_number

-- a transaction is open
abbrev pub is_open : Desk → Bool
is_open k = not (eqb k.busy 0)

-- no age was given to the desk's transaction, open or aborted: ages begin at 1
abbrev pub ageless : Desk → Bool
ageless k = eqb k.age.0 0

-- the desk's private copy of item i
abbrev pub copy_of : Desk → ℕ → ℕ
copy_of k i = get_or k.copies i 0

-- a desk's record; past the sixteenth there is none, not even room for copies
abbrev pub beyond : Desk
beyond = record { busy = 0; age = no_age; start = no_number; read = none; shared = none; written = none; copies = [] }

abbrev pub desk_in : List Desk → ℕ → Desk
desk_in desks d = get_or desks d beyond

-- ---- locks

-- for a read, a desk that has written the item conflicts; for a write, which w tells, also one that holds it shared
abbrev pub conflicts : Desk → ℕ → Bool → Bool
conflicts k i w = has k.written i || (w && has k.shared i)

-- another desk e is a conflicting holder of item i, for a request of desk d
abbrev pub in_the_way : List Desk → Items → ℕ → ℕ → Bool → ℕ → Bool
in_the_way desks guarded d i w e = has guarded i && not (eqb e d) && conflicts (desk_in desks e) i w

-- of the desks below n that p holds of, the one of lowest age; 16 where there is none
unfoldable pub eldest : (ℕ → Bool) → (ℕ → ℕ) → ℕ → ℕ
eldest p age zero = 16
eldest p age (suc n) =
    let e = eldest p age n in
    cond (p n && (eqb e 16 || ltb (age n) (age e))) n e

-- one desk more, e, after the one found: it is taken if none was or it is older
abbrev pub older : (ℕ → ℕ) → Option ℕ → ℕ → ℕ
older age None e = e
older age (Some f) e = cond (ltb (age e) (age f)) e f

-- of desks with ages 3, 1 and 2 it is desk 1
pub of_three : eldest (λ e. true) (λ e. get_or (3 ∷ 1 ∷ 2 ∷ []) e 0) 3 ≡ 1
unfolding eldest
of_three = refl

-- of the conflicting holders, the one of lowest age; 16 where there is none
abbrev pub holder : List Desk → Items → ℕ → ℕ → Bool → ℕ
holder desks guarded d i w = eldest (in_the_way desks guarded d i w) (λ e. (desk_in desks e).age.0) 16

-- with desk e the oldest holder: granted where there is none; wait if this transaction is older than e, and so than each; else yield.
-- A wait and a yield name desk e
abbrev pub locked_by : List Desk → ℕ → ℕ → Answer → ℕ → Answer
locked_by desks d i granted e =
    cond (eqb e 16) granted
    (cond (ltb (desk_in desks d).age.0 (desk_in desks e).age.0) (Wait i e) (Aborted (Yield i e)))

abbrev pub locked : List Desk → Items → ℕ → ℕ → Bool → Answer → Answer
locked desks guarded d i w granted = locked_by desks d i granted (holder desks guarded d i w)
