-- A desk's copies are within the limits of their items: a write outside them is refused.
use Prim.Native.Nat.{ℕ, ◌≤◌, ◌<◌}
use mathlib.Core.Path.{◌≡◌, ap, sym, ◌∙◌, subst}
use mathlib.Core.Bool.{true, false}
use mathlib.Core.List.{List}
use borrow.Author.Tests.{ltb-true, ltb-false}
use lib.Dec.{eqb, ltb}
use lib.ListN.{get_or, set, length}
use lib.Seq.{get_or-set_same, get_or-set_other, set_out}
use Rattle.std.specs.Prelude.{Ok, Err}
use Rattle.items.specs.Items.{has}
use Rattle.items.proofs.Laws.{has-none, with_other}
use Rattle.items.proofs.Tests.{by_cond, by_test, by_equal, by_place, clash}
use Rattle.counters.specs.Counters.{no_age, no_number}
use Rattle.counters.specs.declared.Age.{Age}
use Rattle.counters.specs.declared.Number.{Number}
use Rattle.wire.specs.Requests.{Decoded, desk_of, value_in, value_of}
use Rattle.wire.specs.declared.Request.{Request}
use Rattle.wire.specs.declared.Request.TheVariants.{Begin, Read, Write, End, Abandon}
use Rattle.wire.specs.declared.Answer.{Answer}
use Rattle.wire.specs.declared.Answer.TheVariants.{Refused, Opened, Value, Stored, Wait, Committed, Abandoned, Aborted}
use Rattle.wire.proofs.Checks.{Passed, unless_ways}
use Rattle.desks.specs.Desks.{blank, idle, opened, copy_of, desk_in, beyond}
use Rattle.desks.specs.declared.Desk.{Desk}
use Rattle.desks.proofs.Locking.{locked_ways}
use Rattle.board.specs.Rules.{desk_at, checks, refusal, seen, granted, answered, answer, reading, writing, follow, is_guarded}
use Rattle.board.specs.Opening.{opening}
use Rattle.board.specs.declared.Board.{Board}
use Rattle.board.proofs.Validated.{ended_ways}
use Rattle.board.proofs.Granted.{checks_passed}

-- v is within the limits of item i
abbrev pub Within : Board → ℕ → ℕ → Type 0
Within b i v = (get_or b.floors i 0 ≤ v) × (v ≤ get_or b.ceilings i 0)

-- ---- what is stored

-- of an answer to a request with value v
abbrev pub Stores : Board → ℕ → Answer → Type 0
Stores b v (Refused n) = Unit {0}
Stores b v (Opened a s) = Unit {0}
Stores b v (Value i u) = Unit {0}
Stores b v (Stored i) = Within b i v
Stores b v (Wait i e) = Unit {0}
Stores b v (Committed n) = Unit {0}
Stores b v Abandoned = Unit {0}
Stores b v (Aborted w) = Unit {0}

granted_stores : (b : Board) (d : ℕ) (r : Request) → Passed (checks b d r) → Stores b (value_in r) (granted b d r)
granted_stores b d Begin p = tt
granted_stores b d (Read i) p =
    locked_ways (Stores b 0) b.desks b.guarded d i false (Value i (seen b.values (desk_at b d) i)) (λ free. tt) (λ held older. tt) (λ held younger. tt)
granted_stores b d (Write i v) p =
    locked_ways (Stores b v) b.desks b.guarded d i true (Stored i)
    (λ free. (ltb-false v (get_or b.floors i 0) p.1.1.0, ltb-false (get_or b.ceilings i 0) v p.1.1.1.0)) (λ held older. tt) (λ held younger. tt)
granted_stores b d End p = ended_ways (Stores b 0) b.sets b.number (desk_at b d) (λ unread. tt) tt (λ recent fresh. tt) tt
granted_stores b d Abandon p = tt

pub answer_stores : (b : Board) (q : Decoded) → Stores b (value_of q) (answer b q)
unfolding answer answered
answer_stores b (Err n) = tt
answer_stores b (Ok (d, r)) = unless_ways (Stores b (value_in r)) (refusal b d r) (λ n e. tt) (λ e. granted_stores b d r (checks_passed b d r e))

-- ---- what is kept

-- each copy of a written item is within its limits
abbrev pub Fine : Board → Desk → Type 0
Fine b k = (i : ℕ) → i < 64 → has k.written i ≡ true → Within b i (copy_of k i)

abbrev pub Copied : Board → List Desk → Type 0
Copied b ds = (d : ℕ) → Fine b (desk_in ds d)

-- one desk's record anew
one_desk : (b : Board) (ds : List Desk) (d : ℕ) (k : Desk) → Copied b ds → Fine b k → Copied b (set ds d k)
one_desk b ds d k h f e =
    by_equal e d
    (λ q. by_test (ltb d (length ds))
    (λ t. subst (Fine b) (sym (ap (desk_in (set ds d k)) q ∙ get_or-set_same ds d k beyond (ltb-true d (length ds) t))) f)
    (λ t. subst (λ (l : List Desk). Fine b (desk_in l e)) (sym (set_out ds d k (ltb-false d (length ds) t))) (h e)))
    (λ ne. subst (Fine b) (sym (get_or-set_other ds d e k beyond ne)) (h e))

-- a desk with nothing written
blank_fine : (b : Board) (o : ℕ) (a : Age) (s : Number) → Fine b (blank o a s)
blank_fine b o a s i low e = clash e (has-none i)

-- one more copy
writing_fine : (b : Board) (k : Desk) (i v : ℕ) → length k.copies ≡ 64 → Within b i v → Fine b k → Fine b (writing k i v)
writing_fine b k i v long w f j low e =
    by_equal j i
    (λ q. subst (λ (x : ℕ). Within b x (get_or (set k.copies i v) x 0)) (sym q) (subst (Within b i) (sym (get_or-set_same k.copies i v 0 (rw long (subst (λ (x : ℕ). x < 64) q low)))) w))
    (λ ne. subst (Within b j) (sym (get_or-set_other k.copies i j v 0 ne)) (f j low (sym (with_other k.written i j ne) ∙ e)))

-- after an answer
pub follow_copied : (b : Board) (q : Decoded) → length (desk_at b (desk_of q)).copies ≡ 64 → Copied b b.desks → (a : Answer) → Stores b (value_of q) a → Copied (follow b q a) (follow b q a).desks
unfolding follow
follow_copied b q long h (Refused n) w = h
follow_copied b q long h (Opened a s) w = one_desk b b.desks (desk_of q) (opened a s) h (blank_fine b 1 a s)
follow_copied b q long h (Value i v) w = one_desk b b.desks (desk_of q) (reading (desk_at b (desk_of q)) i (is_guarded b i)) h (h (desk_of q))
follow_copied b q long h (Stored i) w =
    one_desk b b.desks (desk_of q) (writing (desk_at b (desk_of q)) i (value_of q)) h (writing_fine b (desk_at b (desk_of q)) i (value_of q) long w (h (desk_of q)))
follow_copied b q long h (Wait i e) w = h
follow_copied b q long h (Committed n) w = one_desk b b.desks (desk_of q) (idle no_age) h (blank_fine b 0 no_age no_number)
follow_copied b q long h Abandoned w = one_desk b b.desks (desk_of q) (idle no_age) h (blank_fine b 0 no_age no_number)
follow_copied b q long h (Aborted x) w =
    let a = (desk_at b (desk_of q)).age in one_desk b b.desks (desk_of q) (idle a) h (blank_fine b 0 a no_number)

pub opening_copied : (t : List ℕ) → Copied (opening t) (opening t).desks
unfolding opening
opening_copied t =
    by_place (Fine (opening t)) (λ i low e. clash e (has-none i)) (λ i low e. clash e (has-none i)) 16
