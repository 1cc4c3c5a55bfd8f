-- The demands say something: without any one of the three conditions an exchange can change an answer, an ordinary pair meets them all,
-- and not every history replays.
use mathlib.Core.Path.{◌≡◌, refl, sym, subst}
use mathlib.Core.Bool.{Bool, true, false, ◌&&◌, and-false}
use mathlib.Core.List.{List, [], ◌∷◌, ◌++◌, map}
use Prim.Native.Nat.{ℕ, ◌<◌}
use native.Mathlib.Omega.{arith}
use borrow.Author.Tests.{eq-eqb, eqb-true}
use lib.Dec.{eqb}
use lib.ListN.{length}
use Rattle.items.proofs.Tests.{by_test, clash, and_in}
use Rattle.items.proofs.Laws.{has-none}
use Rattle.runs.specs.Runs.{after, answers, exchange, Exchanged}
use Rattle.runs.specs.Replay.{got, put, Serial}
use Rattle.wire.specs.Answers.{fields}
use Rattle.wire.specs.Requests.{request_of, unused_zero, decode}
use Rattle.wire.specs.declared.Answer.{Answer}
use Rattle.board.specs.Rules.{rules, next, reply}
use Rattle.board.specs.Opening.{opening}
use Rattle.demands.specs.Demands.{is_from, bounds, concerns, Apart}
use Rattle.demands.proofs.Exchange.{exchanges}
use Rattle.board.specs.Example.{table, table_right, computing, begin, read, write, end, abandon}

-- ---- lists of answers, compared by their numbers

abbrev same : List ℕ → List ℕ → Bool
same [] [] = true
same [] (y ∷ ys) = false
same (x ∷ xs) [] = false
same (x ∷ xs) (y ∷ ys) = eqb x y && same xs ys

abbrev sames : List (List ℕ) → List (List ℕ) → Bool
sames [] [] = true
sames [] (y ∷ ys) = false
sames (x ∷ xs) [] = false
sames (x ∷ xs) (y ∷ ys) = same x y && sames xs ys

same_refl : (xs : List ℕ) → same xs xs ≡ true
same_refl [] = refl
same_refl (x ∷ xs) = and_in (eqb x x) (same xs xs) (eq-eqb x x refl) (same_refl xs)

sames_refl : (xs : List (List ℕ)) → sames xs xs ≡ true
sames_refl [] = refl
sames_refl (x ∷ xs) = and_in (same x x) (sames xs xs) (same_refl x) (sames_refl xs)

abbrev shown : List Answer → List (List ℕ)
shown = map fields

-- ---- pairs in the example that are not apart, each but for one condition

-- the requests before, and the two
abbrev Case : Type 0
Case = List (List ℕ) × List ℕ × List ℕ

abbrev two_begins : Case
two_begins = ([], begin 0, begin 1)

abbrev one_desk : Case
one_desk = ([], begin 0, abandon 0)

-- an item that both name; one that desk 1 names and desk 0 holds shared, or has written
abbrev both_name : Case
both_name = (begin 0 ∷ begin 1 ∷ [], write 0 1 1, write 1 1 1)

abbrev held_before : Case
held_before = (begin 0 ∷ begin 1 ∷ read 0 1 ∷ [], abandon 0, write 1 1 1)

abbrev written_before : Case
written_before = (begin 0 ∷ begin 1 ∷ write 0 0 115 ∷ [], end 0, read 1 0)

-- what the answers are with p and q exchanged, and what they would be if that changed none
abbrev become : Case → List Answer
become (before, p, q) = answers next reply (opening table) (before ++ q ∷ p ∷ [])

abbrev remain : Case → List Answer
remain (before, p, q) = exchange (length before) (answers next reply (opening table) (before ++ p ∷ q ∷ []))

abbrev Differ : Case → Type 0
Differ c = sames (shown (become c)) (shown (remain c)) ≡ false

differ : Differ two_begins × Differ one_desk × Differ both_name × Differ held_before × Differ written_before
unfolding computing
differ = (refl, refl, refl, refl, refl)

-- ---- each condition is needed: the other two hold, and the exchange changes an answer

abbrev Desks : Case → Type 0
Desks (before, p, q) = (d : ℕ) → (is_from (decode p) d && is_from (decode q) d) ≡ false

abbrev Ends : Case → Type 0
Ends (before, p, q) = (bounds (decode p) && bounds (decode q)) ≡ false

abbrev Items : Case → Type 0
Items (before, p, q) =
    let b = after next (opening table) before in
    (i : ℕ) → i < 64 → (concerns b (decode p) i && concerns b (decode q) i) ≡ false

abbrev Not : Case → Type 0
Not (before, p, q) = Exchanged next reply (opening table) before p q [] → ⊥

refuted : (c : Case) → Differ c → Not c
refuted c f e = clash (sames_refl (shown (become c))) (subst (λ (l : List Answer). sames (shown (become c)) (shown l) ≡ false) (sym e.replies) f)

pub not_both : (i : ℕ) → (eqb 0 i && eqb 1 i) ≡ false
not_both i = by_test (eqb 1 i) (λ t. let e = eqb-true 1 i t in rw (← e)) (λ f. rw f (and-false (eqb 0 i)))

pub ends_needed : Desks two_begins × Items two_begins × Not two_begins
unfolding opening decode request_of unused_zero
ends_needed = (not_both, (λ i low. rw (has-none i)), refuted two_begins differ.0)

pub desks_needed : Ends one_desk × Items one_desk × Not one_desk
unfolding opening decode request_of unused_zero
desks_needed = (refl, (λ i low. rw (has-none i)), refuted one_desk differ.1)

abbrev Needed : Case → Type 0
Needed c = Desks c × Ends c × Not c

pub items_needed : Needed both_name × Needed held_before × Needed written_before
unfolding decode request_of unused_zero
items_needed =
    ((not_both, refl, refuted both_name differ.2), (not_both, refl, refuted held_before differ.3), (not_both, refl, refuted written_before differ.4))

-- ---- an ordinary pair is apart: desk 0 reads item 0 beside desk 1, which writes item 1

ordinary : Apart (after next (opening table) (begin 0 ∷ begin 1 ∷ [])) (decode (read 0 0)) (decode (write 1 1 1))
unfolding opening rules decode request_of unused_zero
ordinary = record { desks = not_both; ends = refl; items = λ i low. rw (has-none i) (not_both i) }

pub ordinary_exchanged : Exchanged next reply (opening table) (begin 0 ∷ begin 1 ∷ []) (read 0 0) (write 1 1 1) (end 0 ∷ end 1 ∷ [])
ordinary_exchanged = exchanges table table_right (begin 0 ∷ begin 1 ∷ []) (read 0 0) (write 1 1 1) (end 0 ∷ end 1 ∷ []) ordinary

-- ---- a read of the value that an earlier number replaced does not replay

pub stale_read : Serial (opening table).values (record { number = 2; ops = got 0 140 ∷ [] } ∷ record { number = 1; ops = put 0 115 ∷ [] } ∷ []) → ⊥
unfolding computing
stale_read h = let e : ◌≡◌ {A = ℕ} 115 140 = h.0.0 in omega arith
