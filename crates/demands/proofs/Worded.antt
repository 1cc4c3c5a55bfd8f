-- Two requests that are apart by their bytes, as the outline words it, are apart.
use mathlib.Core.Path.{◌≡◌, refl, sym, ◌∙◌}
use mathlib.Core.Bool.{Bool, true, false, cond, ◌&&◌, ◌||◌}
use mathlib.Core.List.{List}
use Prim.Native.Nat.{ℕ}
use borrow.Author.Tests.{eqb-true}
use lib.Dec.{eqb}
use Rattle.items.proofs.Tests.{by_test, clash, and_left, and_right, and_weaker, or_weaker}
use Rattle.words.specs.Bytes.{byte, word_at}
use Rattle.wire.specs.Requests.{Decoded, request_of}
use Rattle.wire.specs.declared.Request.TheVariants.{Begin, Read, Write, End, Abandon}
use Rattle.wire.proofs.Forms.{Shape, bad, good, shape}
use Rattle.board.specs.Rules.{desk_at}
use Rattle.demands.specs.Demands.{is_from, bound, bounds, names, touched, concerns, Apart, names_byte, bounds_byte, ApartByBytes, AsWorded}
use Rattle.board.specs.declared.Board.{Board}

-- ---- what a decoded request is, its bytes say

bound_kind : (t u v w : Bool) (i n : ℕ)
    → bound (cond t Begin (cond u (Read i) (cond v (Write i n) (cond w End Abandon)))) ≡ true → (t || w) ≡ true
bound_kind true u v w i n e = refl
bound_kind false true v w i n e = clash e refl
bound_kind false false true w i n e = clash e refl
bound_kind false false false true i n e = refl
bound_kind false false false false i n e = clash e refl

names_kind : (t u v w : Bool) (i n j : ℕ)
    → names (cond t Begin (cond u (Read i) (cond v (Write i n) (cond w End Abandon)))) j ≡ true → ((u || v) && eqb i j) ≡ true
names_kind true u v w i n j e = clash e refl
names_kind false true v w i n j e = e
names_kind false false true w i n j e = e
names_kind false false false true i n j e = clash e refl
names_kind false false false false i n j e = clash e refl

module _ (q : List ℕ) where
  abbrev kind_is : ℕ → Bool
  kind_is n = eqb (byte q 0) n

  from_bytes : {x : Decoded} → Shape q x → (d : ℕ) → is_from x d ≡ true → byte q 1 ≡ d
  from_bytes (bad n) d e = clash e refl
  from_bytes (good low) d e = eqb-true (byte q 1) d e

  bound_bytes : {x : Decoded} → Shape q x → bounds x ≡ true → bounds_byte q ≡ true
  unfolding request_of
  bound_bytes (bad n) e = clash e refl
  bound_bytes (good low) e = bound_kind (kind_is 1) (kind_is 2) (kind_is 3) (kind_is 4) (byte q 2) (word_at q 4) e

  concern_bytes : (b : Board) {x : Decoded} → Shape q x → (i : ℕ) → concerns b x i ≡ true → (touched (desk_at b (byte q 1)) i || names_byte q i) ≡ true
  unfolding request_of
  concern_bytes b (bad n) i e = clash e refl
  concern_bytes b (good low) i e =
      or_weaker (touched (desk_at b (byte q 1)) i) (names_kind (kind_is 1) (kind_is 2) (kind_is 3) (kind_is 4) (byte q 2) (word_at q 4) i) e

module _ (b : Board) (p q : List ℕ) (m : ApartByBytes b p q) where
  apart : {x y : Decoded} → Shape p x → Shape q y → Apart b x y
  apart {x} {y} s t =
      record {
        desks =
            λ d.
            by_test (is_from x d && is_from y d)
            (λ e.
            absurd (m.desks (from_bytes p s d (and_left (is_from x d) (is_from y d) e) ∙ sym (from_bytes q t d (and_right (is_from x d) (is_from y d) e)))))
            (λ e. e);
        ends = and_weaker (bounds x) (bounds y) (bound_bytes p s) (bound_bytes q t) m.ends;
        items = λ i low. and_weaker (concerns b x i) (concerns b y i) (concern_bytes p b s i) (concern_bytes q b t i) (m.items i low);
      }

pub worded : AsWorded
worded b p q m = apart b p q m (shape p) (shape q)
