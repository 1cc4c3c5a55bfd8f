-- One more request at the end of a run on any board: the board and the answers' bytes. And a run of one request.
use mathlib.Core.Path.{◌≡◌, refl, ap, ◌∙◌}
use mathlib.Core.List.{List, [], ◌∷◌, ◌++◌, append_assoc, append-nil}
use Prim.Native.Nat.{ℕ, ◌+◌, ◌*◌, ◌/◌}
use native.Mathlib.Omega.{arith}
use native.Mathlib.Numerals.{add-one}
use lib.ListN.{length, drop, length-append, drop_of_length-le}
use lib.Seq.{take_all}
use Rattle.runs.specs.Runs.{after}
use Rattle.runs.proofs.Grown.{after_more}
use Rattle.words.specs.Bytes.{byte}
use Rattle.wire.specs.Answers.{encode}
use Rattle.wire.specs.declared.Answer.{Answer}
use Rattle.pieces.specs.Pieces.{eights_of, eights_in}
use Rattle.pieces.proofs.Eights.{EightLong, eight_at, eights_of-length}
use Rattle.board.specs.Reached.{Eights}
use Rattle.lent.specs.Served.{twelve_each, served, written}

pub encode-length : (d : ℕ) (a : Answer) → length (encode d a) ≡ 12
unfolding encode
encode-length d a = refl

pub eight_long : (qs : List (List ℕ)) → Eights qs → EightLong qs
eight_long [] h = tt
eight_long (q ∷ qs) h = (h.0.long, eight_long qs h.1)

module _ {S : Type 0} (next : S → List ℕ → S) (reply : S → List ℕ → Answer) where
  served_snoc : (b : S) (qs : List (List ℕ)) (q : List ℕ) → served next reply b (qs ++ (q ∷ [])) ≡ served next reply b qs ++ encode (byte q 1) (reply (after next b qs) q)
  unfolding twelve_each
  served_snoc b [] q = append-nil (encode (byte q 1) (reply b q))
  served_snoc b (p ∷ qs) q = rw (served_snoc (next b p) qs q, append_assoc)

  served-length : (b : S) (qs : List (List ℕ)) → length (served next reply b qs) ≡ 12 * length qs
  unfolding twelve_each
  served-length b [] = refl
  served-length b (q ∷ qs) = rw length-append (omega (arith, encode-length (byte q 1) (reply b q), served-length (next b q) qs))

  module _ (b : S) (s : List ℕ) (k : ℕ) where
    pub next-board : after next b (eights_of s (k + 1)) ≡ next (after next b (eights_of s k)) (eight_at s k)
    unfolding eights_of
    next-board = rw add-one (after_more next b (eights_of s k) (eight_at s k))

    pub next-answer : served next reply b (eights_of s (k + 1)) ≡ served next reply b (eights_of s k) ++ encode (byte (eight_at s k) 1) (reply (after next b (eights_of s k)) (eight_at s k))
    unfolding eights_of
    next-answer = rw add-one (served_snoc b (eights_of s k) (eight_at s k))

    pub answers-length : length (served next reply b (eights_of s k)) ≡ 12 * k
    answers-length = served-length b (eights_of s k) ∙ ap (λ (n : ℕ). 12 * n) (eights_of-length s k)

  -- one call for each request writes the same
  pub written_served : (b : S) (qs : List (List ℕ)) → written next (λ s q. encode (byte q 1) (reply s q)) b qs ≡ served next reply b qs
  unfolding twelve_each
  written_served b [] = refl
  written_served b (q ∷ qs) = rw (written_served (next b q) qs)

  -- ---- a run of one request

  module _ (b : S) (q : List ℕ) (eight : length q ≡ 8) where
    one_request : eights_in q ≡ q ∷ []
    unfolding eights_of
    one_request = rw eight (ap (λ (l : List ℕ). l ∷ []) (take_all 8 q (omega arith)))

    pub one_board : after next b (eights_in q) ≡ next b q
    one_board = ap (after next b) one_request

    pub one_answer : (buffer : List ℕ) → length buffer ≡ 12 → served next reply b (eights_in q) ++ drop (12 * (length q / 8)) buffer ≡ encode (byte q 1) (reply b q)
    unfolding twelve_each
    one_answer buffer twelve =
        ap (λ (qs : List (List ℕ)). served next reply b qs ++ drop (12 * (length q / 8)) buffer) one_request
        ∙ rw (eight, append-nil, drop_of_length-le buffer {i = 12} (omega arith), append-nil)
