-- Two requests that are apart commute: neither sees what the other changes, and their changes can be made in either order.
use mathlib.Core.Path.{◌≡◌, sym, ap, ap₂, ◌∙◌, subst}
use mathlib.Core.Logic.{◌≢◌}
use mathlib.Core.Bool.{true, false, not, ◌&&◌, and_comm}
use mathlib.Core.List.{List}
use Prim.Native.Nat.{ℕ, ◌<◌}
use lib.ListN.{get_or, length}
use lib.Seq.{get_or-set_same, get_or-set_other}
use Rattle.std.specs.Prelude.{Ok}
use Rattle.items.specs.Items.{has}
use Rattle.items.specs.declared.Items.{Items}
use Rattle.items.proofs.Tests.{by_cond, by_equal, clash, and_not_right, or_left, or_right}
use Rattle.items.proofs.Laws.{has-none, with_other, has-without}
use Rattle.wire.specs.Requests.{value_of}
use Rattle.wire.specs.declared.Request.{Request}
use Rattle.wire.specs.declared.Answer.{Answer}
use Rattle.wire.specs.declared.Answer.TheVariants.{Refused, Opened, Value, Stored, Wait, Committed, Abandoned, Aborted}
use Rattle.desks.specs.Desks.{beyond}
use Rattle.board.specs.Rules.{desk_at, put, answer, follow}
use Rattle.demands.specs.Demands.{bound, names, touched, concerns}
use Rattle.desks.specs.declared.Desk.{Desk}
use Rattle.board.specs.declared.Board.{Board}
use Rattle.demands.proofs.Due.{Due}
use Rattle.demands.proofs.Seen.{Untouched, untouched, Unmoved, still, clear, AlikeAt, Alike, answer_same}
use Rattle.demands.proofs.Done.{desk_after, desk_now, Own, kind, own_of, desks_after, ranges_after, guarded_after, counts_after, value_after, follow_put}

-- ---- a request adds to its desk's sets only the item that it names

module _ (r : Request) (g : Items) (k : Desk) (i v : ℕ) (u : Untouched k i) (unnamed : names r i ≡ false) where
  other : (j : ℕ) → names r j ≡ true → i ≢ j
  other j named e = clash named (rw e at unnamed)

  pub still_untouched : (a : Answer) → Due r a → Untouched (desk_after g k v a) i
  still_untouched (Refused n) h = u
  still_untouched (Opened a s) h = record { shared = has-none i; written = has-none i }
  still_untouched (Value j x) h =
      record {
        shared =
            by_cond (λ (s : Items). has s i ≡ false) (has g j && not (has k.written j))
            (λ t. with_other k.shared j i (other j h) ∙ u.shared) (λ f. u.shared);
        written = u.written;
      }
  still_untouched (Stored j) h =
      record {
        shared = has-without k.shared j i ∙ rw u.shared;
        written = with_other k.written j i (other j h) ∙ u.written;
      }
  still_untouched (Wait j e) h = u
  still_untouched (Committed n) h = record { shared = has-none i; written = has-none i }
  still_untouched Abandoned h = record { shared = has-none i; written = has-none i }
  still_untouched (Aborted w) h = record { shared = has-none i; written = has-none i }

-- ---- two requests on a board

-- request r of desk d and request s of desk e: different desks, not both a begin or an end, and no item that concerns both
pub record Parted (b : Board) (d : ℕ) (r : Request) (e : ℕ) (s : Request) : Type 0 where
  pub first : d < length b.desks
  pub second : e < length b.desks
  pub desks : d ≢ e
  pub ends : (bound r && bound s) ≡ false
  pub items : (i : ℕ) → i < 64 → (concerns b (Ok (d, r)) i && concerns b (Ok (e, s)) i) ≡ false

pub flip : {b : Board} {d : ℕ} {r : Request} {e : ℕ} {s : Request} → Parted b d r e s → Parted b e s d r
flip {b} {d} {r} {e} {s} c =
    record {
      first = c.second;
      second = c.first;
      desks = λ p. c.desks (sym p);
      ends = and_comm (bound s) (bound r) ∙ c.ends;
      items = λ i h. and_comm (concerns b (Ok (e, s)) i) (concerns b (Ok (d, r)) i) ∙ c.items i h;
    }

-- what desk e's request sees after desk d's is as before
module _ (b : Board) (d : ℕ) (r : Request) (e : ℕ) (s : Request) (c : Parted b d r e s) (a : Answer) (fit : Due r a) where
  -- the board after desk d's request, and its desk's record
  abbrev then : Board
  then = follow b (Ok (d, r)) a

  abbrev now : Desk
  now = desk_now b (Ok (d, r)) a

  elsewhere : (k : ℕ) → k ≢ d → desk_at b k ≡ desk_at then k
  elsewhere k ne =
      sym (ap (λ (ds : List Desk). get_or ds k beyond) (desks_after b (Ok (d, r)) a (kind a)) ∙ get_or-set_other b.desks d k now beyond ne)

  itself : desk_at then d ≡ now
  itself =
      ap (λ (ds : List Desk). get_or ds d beyond) (desks_after b (Ok (d, r)) a (kind a)) ∙ get_or-set_same b.desks d now beyond c.first

  -- item i concerns s, so it does not concern r
  module _ (i : ℕ) (low : i < 64) (concerned : concerns b (Ok (e, s)) i ≡ true) where
    unconcerned : concerns b (Ok (d, r)) i ≡ false
    unconcerned = and_not_right (concerns b (Ok (d, r)) i) (concerns b (Ok (e, s)) i) (c.items i low) concerned

    clear_before : Untouched (desk_at b d) i
    clear_before = untouched (desk_at b d) i (or_left (touched (desk_at b d) i) (names r i) unconcerned)

    clear_after : Untouched now i
    clear_after =
        still_untouched r b.guarded (desk_at b d) i (value_of (Ok (d, r))) clear_before
        (or_right (touched (desk_at b d) i) (names r i) unconcerned) a fit

    unmoved : (k : ℕ) → Unmoved i (desk_at b k) (desk_at then k)
    unmoved k =
        by_equal k d
        (λ q. subst (λ (x : ℕ). Unmoved i (desk_at b x) (desk_at then x)) (sym q)
        (clear clear_before (subst (λ (x : Desk). Untouched x i) (sym itself) clear_after)))
        (λ ne. still (elsewhere k ne))

    alike_at : AlikeAt b then i
    alike_at =
        record {
          guarded = ap (λ (g : Items). has g i) (guarded_after b (Ok (d, r)) a (kind a));
          value = value_after b (Ok (d, r)) i clear_before.written a (kind a);
          desks = unmoved;
        }

  alike : Alike b then e s
  alike =
      record {
        desk = elsewhere e (λ p. c.desks (sym p));
        ranges_same = ranges_after b (Ok (d, r)) a (kind a);
        at = alike_at;
        counts_same = λ t. counts_after b (Ok (d, r)) r a fit (and_not_right (bound r) (bound s) c.ends t);
      }

  -- so its answer is the same, and its desk's record after it
  pub answer_kept : answer then (Ok (e, s)) ≡ answer b (Ok (e, s))
  answer_kept = sym (answer_same b then e s alike)

  record_kept : (x : Answer) → desk_now b (Ok (e, s)) x ≡ desk_now then (Ok (e, s)) x
  record_kept x = ap₂ (λ (g : Items) (k : Desk). desk_after g k (value_of (Ok (e, s))) x) (guarded_after b (Ok (d, r)) a (kind a)) alike.desk

  -- the board after both, where s is no begin and no end
  pub board_kept : bound s ≡ false → (x : Answer) → Due s x → follow (follow b (Ok (e, s)) x) (Ok (d, r)) a ≡ follow then (Ok (e, s)) x
  board_kept within x fit' =
      let h : Own x = own_of s x fit' within in
      ap (λ (y : Board). follow y (Ok (d, r)) a) (h b (Ok (e, s)))
      ∙ follow_put b (Ok (d, r)) e (desk_now b (Ok (e, s)) x) c.desks a (kind a)
      ∙ ap (put then e) (record_kept x)
      ∙ sym (h then (Ok (e, s)))
