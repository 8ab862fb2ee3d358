-- The value that is made has no bytes, so its list may be any; it is the empty one.
use mathlib.Core.Path.{refl}
use mathlib.Core.List.{[], ◌∷◌}
use seplogic.Ra.Ura.{Ura}
use mir.Val.{Val, vstruct, vcons, vnil}
use base.Logic.{SProp}
use prog.Memory.{Memory}
use prog.Routine.{Routine}
use prog.Wp.{WpFn, Tables}
use types.Logic.{Logic}
use types.Kit.{raw, ◌$◌, ◌∵◌, !, qed, keep, join, suffices, done}
use types.Run.{no_more, and_then, returns, enter}
use types.Part.{agg}
use types.ByLocal.{alloc_all, pass_all, free_all, look_at, get, sets}
use contract.Monad.{Fun}
use contract.Running.{tables, tables_of}
use sound.WpLaws.{WpFn-mono}
use denote.Shadow.{pure_i}
use denote.Steps.{nothing}
use denote.Triple.Entry.{on_entry}
use denote.Triple.Spec.{Meets, triple_of}
use denote.Triple.Table.{entered}
use denote.Triple.Walked.{says, ends_at, walked, walk_Meets}
use Rattle.djq_system.specs.declared.notes.Notes.{Notes}
use Rattle.djq_system.specs.contracts.notes.Notes as notes
use Rattle.djq_system.specs.contracts.notes.Notes.new as new
use Rattle.djq_system.specs.contracts.notes.Notes.new.Key.{name as #new}
use Rattle.djq_system.proofs.notes.Notes.new.Code as code
use Rattle.djq_system.proofs.notes.Notes.new.Statement as stated

-- the machine's value, a struct of a marker without fields, and what it stands for
abbrev made : Val
made = vstruct (vcons (vstruct vnil) vnil)

abbrev no_calls : Notes
no_calls = record { marker = record {}; calls = [] }

module _ {M : Type 1} {𝓤 : Ura M} (𝓛 : Logic 𝓤) (at_mem : Memory → SProp 𝓤) (run : Routine → Fun 𝓤) (𝓣 : Tables 𝓤 𝓛.H) where
  abbrev body : Fun 𝓤
  body = WpFn 𝓤 𝓛.H 𝓣.C 𝓣.Λ code.function

  meets : Meets 𝓛 new.signature body (new.spec 𝓛 at_mem run)
  meets =
      let said = new.clauses 𝓛 at_mem run in
      walk_Meets 𝓛 new.ended tt tt said body (WpFn-mono 𝓤 𝓛.H 𝓛.laws 𝓣 code.function)
      (walked 𝓛 new.ended tt said body (λ κs. tt) (λ κs. tt) (λ κs qs bounds args ghosts _.
      qed 𝓛 (raw (on_entry 𝓛 new.signature κs qs args tt) ∷ raw ((said κs args).requires ghosts) ∷ []) ∵ keep ! [] $
      enter ! 𝓣.C 𝓣.Λ code.function [] _ $ alloc_all ! (λ places. pass_all ! refl tt $
      sets ! (agg ! (no_more !)) refl (tt, tt) $
      sets ! (agg ! (and_then ! (get ! refl) (no_more !))) refl (tt, (tt, tt)) $
      returns ! (look_at ! 0 refl) $ free_all ! refl $
      pure_i ! (notes.the_row.own_val no_calls (made ∷ []))
      ((λ vss. (tt, ((λ uss. (tt, tt)), tt))), tt) (((vstruct vnil ∷ [], tt), (refl, ((tt, (refl, tt)), tt))), tt) $
      suffices ! _ (ends_at 𝓛 new.ended tt said ((κs, qs, bounds, args, tt), ghosts) made no_calls tt tt) $ says ! refl $
      nothing ! $ join ! $ nothing ! $ done !)))

pub new_spec : {M : Type 1} → stated.statement M
unfolding tables_of
new_spec 𝓤 𝓛 𝓜 𝓡 wired =
    let all = tables 𝓤 𝓛.H 𝓜 𝓡 𝓡.env in
    entered 𝓤 𝓛.H (triple_of 𝓛 new.signature (new.spec 𝓛 𝓜.mem 𝓡.returns)) all.C all.Λ #new code.function
    (code.unfolded 𝓤 𝓛.H 𝓜 𝓡 wired) (meets 𝓛 𝓜.mem 𝓡.returns (tables_of 𝓤 𝓛.H 𝓜 all))
