-- What the walks of lent boards share: the types of a request's and of an answer's bytes, and their machine values; and how a walk of a
-- function's code gives the function's theorem.
use mathlib.Core.Path.{◌≡◌}
use mathlib.Core.List.{List}
use Prim.Native.Nat.{ℕ}
use seplogic.Ra.Ura.{Ura}
use mir.Syntax.{Fn, w8}
use mir.Val.{Val}
use base.Logic.{ent, sep}
use prog.Model.{Model}
use prog.Routine.{Callee, Routine, Env}
use prog.Wp.{Heap, WpFn, Closed, Tables}
use types.Logic.{Logic}
use contract.Lifetimes.{Lfts, Shares, AllOutlive}
use contract.Running.{Running, tables, tables_of}
use sound.WpLaws.{WpFn-mono}
use denote.RattleType.{RattleType, flat}
use denote.Laws.{Are, Ises, Spells, valss, Tellss}
use denote.Plain.{uint_vals}
use denote.Array.{Array, array_vals}
use denote.Builtin.{u8}
use denote.Signature.{Signature, types_at}
use denote.Triple.Entry.{Args, on_entry}
use denote.Triple.Spec.{Meets}
use denote.Triple.Statement.{Contract, Triple}
use denote.Triple.Clauses.{Ended, Clauses, closing}
use denote.Triple.Table.{entered, cited}
use denote.Triple.Walked.{Stays, AllGo, walk_of, walked, walk_Meets}

abbrev pub Eight : RattleType
Eight = Array u8 8

abbrev pub Twelve : RattleType
Twelve = Array u8 12

abbrev pub bytes_vals : List ℕ → List Val
bytes_vals = array_vals (uint_vals w8)

-- code meets its contract where it is walked: from its parameters, as the machine values that sp gives, to what hs says is had of them at exit
module _ {M : Type 1} {𝓤 : Ura M} (𝓛 : Logic 𝓤) (T : Ended) (hs : Stays T.signature.params T.kept) (c : Clauses 𝓤 T) where
  open 𝓛 use {H}

  abbrev S : Signature
  S = T.signature

  abbrev rows : Lfts S.lifetimes → List RattleType
  rows = types_at S.params

  pub code_meets : AllGo 𝓛 S.lifetimes S.params T.kept hs → (𝓣 : Tables 𝓤 H) (e : Fn) (sp : (κs : Lfts S.lifetimes) → Spells (rows κs)) → ((κs : Lfts S.lifetimes) → Tellss (rows κs) (Ises (rows κs)) (sp κs))
      → ((κs : Lfts S.lifetimes) (qs : Shares S.lifetimes) (bounds : AllOutlive S.lifetimes S.outlives κs) (a : Args S κs) (g : (c κs a).ghost) → let vss = valss (rows κs) (sp κs) a in Are (rows κs) (Ises (rows κs)) a vss
      → ent 𝓤 (sep 𝓤 (on_entry 𝓛 S κs qs a vss) ((c κs a).requires g)) (WpFn 𝓤 H 𝓣.C 𝓣.Λ e (flat (rows κs) vss) ((walk_of 𝓛 T hs c).post ((κs, qs, bounds, a, vss), g))))
      → Meets 𝓛 S (WpFn 𝓤 H 𝓣.C 𝓣.Λ e) (closing 𝓛 T c)
  code_meets gs 𝓣 e sp tells walk = let run = WpFn 𝓤 H 𝓣.C 𝓣.Λ e in walk_Meets 𝓛 T hs gs c run (WpFn-mono 𝓤 H 𝓛.laws 𝓣 e) (walked 𝓛 T hs c run sp tells walk)

-- the routine of code that calls one function meets c: the callee's routine r meets d, and over any tables in which the callee's name j meets d the code meets c
module _ {M : Type 1} (𝓤 : Ura M) (H : Heap 𝓤) (𝓜 : Model 𝓤 H) (𝓡 : Running 𝓤 H 𝓜) (γ : Env) where
  pub routine_meets : (k : Callee) (e : Fn) (c : Contract 𝓤) {d : Contract 𝓤} {j : Callee} {r : Routine} → Closed 𝓤 H (tables 𝓤 H 𝓜 𝓡 γ).C (tables 𝓤 H 𝓜 𝓡 γ).Λ k e → γ j ≡ r → Triple 𝓤 (𝓡.run r) d
      → ((𝓣 : Tables 𝓤 H) → Triple 𝓤 (𝓣.C j) d → Triple 𝓤 (WpFn 𝓤 H 𝓣.C 𝓣.Λ e) c) → Triple 𝓤 (𝓡.run (γ k)) c
  unfolding tables_of
  routine_meets k e c {d} {j} {r} closed means met code = entered 𝓤 H c (tables 𝓤 H 𝓜 𝓡 γ).C (tables 𝓤 H 𝓜 𝓡 γ).Λ k e closed (code (tables_of 𝓤 H 𝓜 (tables 𝓤 H 𝓜 𝓡 γ)) (cited 𝓤 H d 𝓜 𝓡 γ j r means met))
