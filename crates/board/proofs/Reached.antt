-- A board that an opening and requests left is sound, so its counters are as the code leans on; and one request more leaves such a board.
use mathlib.Core.Path.{◌≡◌, refl, ap, ◌∙◌, subst}
use mathlib.Core.Bool.{false}
use mathlib.Core.List.{List, [], ◌∷◌, ◌++◌}
use Prim.Native.Nat.{ℕ}
use native.Mathlib.Omega.{arith}
use Rattle.runs.specs.Runs.{after}
use Rattle.runs.proofs.Grown.{after_more, after_keeps}
use Rattle.words.specs.Bytes.{Bytes}
use Rattle.table.specs.Table.{wrong}
use Rattle.board.specs.Rules.{step, next}
use Rattle.board.specs.Opening.{opening}
use Rattle.board.specs.Reached.{Eights, Reached, Counted}
use Rattle.board.specs.declared.Board.{Board}
use Rattle.board.proofs.Seats.{aged_in_some}
use Rattle.board.proofs.Sound.{Sound, opening_sound, step_sound}

pub run_sound : (t : List ℕ) (qs : List (List ℕ)) → Sound (after next (opening t) qs)
run_sound t qs = after_keeps next Sound (λ b sound q. step_sound sound q) (opening t) (opening_sound t) qs

pub reached_sound : {b : Board} → Reached b → Sound b
reached_sound r = subst Sound r.left (run_sound r.table r.requests)

pub sound_counted : {b : Board} → Sound b → Counted b
sound_counted {b} sound =
    record {
      started = λ d hd. (sound.desks.each d hd).started;
      ahead = λ d hd o. let some = aged_in_some b.desks d in let one = rw ((sound.desks.each d hd).aged o) at some in omega (arith, sound.desks.counted);
      limit = sound.limit;
    }

pub reached_opening : (t : List ℕ) → Bytes 1024 t → wrong t ≡ false → Reached (opening t)
reached_opening t bytes right = record { table = t; bytes = bytes; right = right; requests = []; eights = tt; left = refl }

eights_more : (qs : List (List ℕ)) → Eights qs → (q : List ℕ) → Bytes 8 q → Eights (qs ++ q ∷ [])
eights_more [] e q h = (h, tt)
eights_more (x ∷ qs) e q h = (e.0, eights_more qs e.1 q h)

pub reached_step : {b : Board} → Reached b → (q : List ℕ) → Bytes 8 q → Reached (step b q).board
reached_step r q h =
    record {
      table = r.table;
      bytes = r.bytes;
      right = r.right;
      requests = r.requests ++ q ∷ [];
      eights = eights_more r.requests r.eights q h;
      left = after_more next (opening r.table) r.requests q ∙ ap (λ (b : Board). next b q) r.left;
    }
