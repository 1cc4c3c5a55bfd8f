-- The ages of the desks, open or idle: none is above the last one given, and no two desks have the same but 0.
use mathlib.Core.Path.{◌≡◌, refl, sym, ap, ◌∙◌}
use mathlib.Core.Logic.{◌≢◌}
use mathlib.Core.List.{List}
use Prim.Native.Nat.{ℕ, ◌<◌, ◌≤◌, zero-le}
use native.Mathlib.Nat.{le_refl, le_trans}
use native.Mathlib.Omega.{arith}
use lib.ListN.{set, length, replicate}
use lib.Seq.{get_or-set_same, get_or-set_other}
use Rattle.items.proofs.Tests.{by_equal, by_place}
use Rattle.counters.specs.Counters.{no_age}
use Rattle.desks.specs.Desks.{idle, beyond, desk_in}
use Rattle.desks.specs.declared.Desk.{Desk}

abbrev pub age_in : List Desk → ℕ → ℕ
age_in desks d = (desk_in desks d).age.0

pub record AgesApart (last : ℕ) (desks : List Desk) : Type 0 where
  pub given : (d : ℕ) → age_in desks d ≤ last
  pub apart : (d e : ℕ) → d ≢ e → age_in desks d ≡ age_in desks e → age_in desks d ≡ 0

-- desk d's record becomes k
module _ {last : ℕ} {desks : List Desk} (ages : AgesApart last desks) (d : ℕ) (low : d < length desks) (k : Desk) where
  itself : age_in (set desks d k) d ≡ k.age.0
  itself = ap (λ (m : Desk). m.age.0) (get_or-set_same desks d k beyond low)

  another : (e : ℕ) → e ≢ d → age_in (set desks d k) e ≡ age_in desks e
  another e n = ap (λ (m : Desk). m.age.0) (get_or-set_other desks d e k beyond n)

  -- its age is no other desk's
  ages_set :
      {last' : ℕ} → last ≤ last' → k.age.0 ≤ last' → ((e : ℕ) → e ≢ d → k.age.0 ≡ age_in desks e → k.age.0 ≡ 0)
      → AgesApart last' (set desks d k)
  ages_set later new own =
      record {
        given = λ e. by_equal e d (λ p. rw (p, itself) new) (λ n. rw (another e n) (le_trans (ages.given e) later));
        apart =
            λ e f ne.
            by_equal e d
            (λ p. rw (p, itself, another f (λ q. ne (p ∙ sym q))) (own f (λ q. ne (p ∙ sym q))))
            (λ n.
            by_equal f d
            (λ q. rw (q, itself, another e n) (λ same. same ∙ own e n (sym same)))
            (λ m. rw (another e n, another f m) (ages.apart e f ne)));
      }

  -- it is kept, or the desk has none any more, or it is a new one
  pub ages_kept : k.age.0 ≡ age_in desks d → AgesApart last (set desks d k)
  ages_kept same =
      ages_set (le_refl last) (rw same (ages.given d)) (λ e n p. same ∙ ages.apart d e (λ q. n (sym q)) (sym same ∙ p))

  pub ages_dropped : k.age.0 ≡ 0 → AgesApart last (set desks d k)
  ages_dropped none = ages_set (le_refl last) (rw none zero-le) (λ e n p. none)

  pub ages_begun : last < k.age.0 → AgesApart k.age.0 (set desks d k)
  ages_begun new =
      ages_set (omega arith) (le_refl k.age.0) (λ e n p. let old = ages.given e in absurd (omega arith))

-- at first, where no desk has one
no_age_lem : (n d : ℕ) → age_in (replicate n (idle no_age)) d ≡ 0
no_age_lem = by_place (λ (k : Desk). k.age.0 ≡ 0) refl refl

pub ages_none : (n : ℕ) → AgesApart 0 (replicate n (idle no_age))
ages_none n = record { given = λ d. rw (no_age_lem n d) (le_refl 0); apart = λ d e ne same. no_age_lem n d }
