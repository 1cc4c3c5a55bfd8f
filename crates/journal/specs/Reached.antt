-- What the inner call may suppose of its board: only what an opening and such calls can have left, each with a journal of any length.
use Rattle.std.specs.Prelude.{ℕ, ◌≡◌, false, List, [], ◌∷◌}
use Rattle.runs.specs.Runs.{after}
use Rattle.words.specs.Bytes.{Bytes}
use Rattle.table.specs.Table.{wrong}
use Rattle.journal.specs.Journal.{fresh, step}
use Rattle.journal.specs.declared.Journaled.{Journaled}

-- the length of the journal lent, and the request
pub record Call : Type 0 where
  pub length : ℕ
  pub request : List ℕ

abbrev pub called : Journaled → Call → Journaled
called s c = (step s c.length c.request).board

-- each request is 8 bytes
abbrev pub EightEach : List Call → Type 0
EightEach [] = Unit {0}
EightEach (c ∷ cs) = Bytes 8 c.request × EightEach cs

-- s is what a right opening table and some calls leave
pub record Reached (s : Journaled) : Type 0 where
  pub table : List ℕ
  pub bytes : Bytes 1024 table
  pub right : wrong table ≡ false
  pub calls : List Call
  pub eights : EightEach calls
  pub left : after called (fresh table) calls ≡ s
