-- A board that an opening and calls left: the board without its journal is one that requests left, and no more is used than there is room.
use Prim.Native.Nat.{ℕ, ◌+◌, ◌≤◌, ◌<◌}
use mathlib.Core.Path.{◌≡◌, refl, ap, ◌∙◌, subst}
use mathlib.Core.Bool.{false}
use mathlib.Core.List.{List, [], ◌∷◌, ◌++◌}
use native.Mathlib.Omega.{arith}
use lib.ListN.{length}
use Rattle.runs.specs.Runs.{after}
use Rattle.runs.proofs.Grown.{after_more}
use Rattle.words.specs.Bytes.{Bytes}
use Rattle.table.specs.Table.{wrong}
use Rattle.wire.specs.Requests.{Decoded, decode}
use Rattle.wire.specs.Answers.{item_of}
use Rattle.wire.specs.declared.Answer.{Answer}
use Rattle.wire.specs.declared.Answer.TheVariants.{Refused, Opened, Value, Stored, Wait, Committed, Abandoned, Aborted}
use Rattle.desks.specs.declared.Desk.{Desk}
use Rattle.board.specs.Rules as Rules
use Rattle.board.specs.Rules.{follow}
use Rattle.board.specs.Reached as Boards
use Rattle.board.specs.declared.Board.{Board}
use Rattle.board.proofs.Bounds.{answer_item}
use Rattle.board.proofs.Reached.{reached_opening, reached_step}
use Rattle.records.specs.Records.{size_of, room}
use Rattle.records.proofs.Sizes.{room_most}
use Rattle.journal.specs.Journal.{limited, asking, answer_in, added, step, fresh}
use Rattle.journal.specs.Reached.{Call, called, EightEach, Reached}
use Rattle.journal.specs.declared.Journaled.{Journaled}
use Rattle.journal.proofs.Room.{limited_ways, limited_room, limited_twice, added_size}

-- what is used after an answer that stands is within any bound of what was used before it and of the room
pub used_most :
    (k : Desk) (used most bound : ℕ) (a : Answer) → limited (used + size_of k.written) most a ≡ a → used ≤ bound → most ≤ bound
    → used + length (added k a) ≤ bound
used_most k used most bound (Refused m) e h r = omega arith
used_most k used most bound (Opened a s) e h r = omega arith
used_most k used most bound (Value i v) e h r = omega arith
used_most k used most bound (Stored i) e h r = omega arith
used_most k used most bound (Wait i f) e h r = omega arith
used_most k used most bound (Committed m) e h r = omega (arith, added_size k m, limited_room (used + size_of k.written) most m e)
used_most k used most bound Abandoned e h r = omega arith
used_most k used most bound (Aborted w) e h r = omega arith

-- the item of an answer is one of the 64
pub given_item : (need most : ℕ) (b : Board) (q : Decoded) {first given : Answer} → first ≡ Rules.answer b q → given ≡ limited need most first → item_of given < 64
given_item need most b q f g =
    rw (g, f) (limited_ways need most (λ (a : Answer). item_of a < 64) (Rules.answer b q) (answer_item b q) (λ _ _ _. omega arith))

abbrev Fine : Journaled → Type 0
Fine s = Boards.Reached s.board × (s.used ≤ 65536)

-- the answer stands, or it is the refusal and the board is as it was
call_fine : (s : Journaled) (n : ℕ) (q : List ℕ) → Bytes 8 q → Fine s → Fine (step s n q).board
unfolding step answer_in Rules.step follow
call_fine s n q eight fine =
    let d = decode q in
    let need = s.used + size_of (asking s d).written in (
      limited_ways need (room n) (λ (a : Answer). Boards.Reached (follow s.board d a)) (Rules.answer s.board d) (reached_step fine.0 q eight) (λ _ _ _. fine.0),
      used_most (asking s d) s.used (room n) 65536 (answer_in s n d) (limited_twice need (room n) (Rules.answer s.board d)) fine.1 (room_most n),
    )

calls_fine : (cs : List Call) → EightEach cs → (s : Journaled) → Fine s → Fine (after called s cs)
calls_fine [] e s fine = fine
calls_fine (c ∷ cs) e s fine = calls_fine cs e.1 (called s c) (call_fine s c.length c.request e.0 fine)

pub reached_fine : {s : Journaled} → Reached s → Fine s
reached_fine r = subst Fine r.left (calls_fine r.calls r.eights (fresh r.table) (reached_opening r.table r.bytes r.right, omega arith))

-- ---- an opening, and one call more

pub reached_fresh : (t : List ℕ) → Bytes 1024 t → wrong t ≡ false → Reached (fresh t)
reached_fresh t bytes right = record { table = t; bytes = bytes; right = right; calls = []; eights = tt; left = refl }

eights_more : (cs : List Call) → EightEach cs → (c : Call) → Bytes 8 c.request → EightEach (cs ++ c ∷ [])
eights_more [] e c h = (h, tt)
eights_more (x ∷ cs) e c h = (e.0, eights_more cs e.1 c h)

pub reached_call : {s : Journaled} → Reached s → (n : ℕ) (q : List ℕ) → Bytes 8 q → Reached (step s n q).board
reached_call r n q h =
    let c : Call = record { length = n; request = q } in
    record {
      table = r.table;
      bytes = r.bytes;
      right = r.right;
      calls = r.calls ++ c ∷ [];
      eights = eights_more r.calls r.eights c h;
      left = after_more called (fresh r.table) r.calls c ∙ ap (λ (s : Journaled). called s c) r.left;
    }
