-- The body is empty. The borrow is opened, and closed at the value whose list has the call: no memory has the list, so
-- the machine's value stands for both.
use Rattle.std.proofs.Common.{ℕ, ◌<◌, ◌^◌, List, [], ◌∷◌, ◌++◌, length, refl, MutBor}
use seplogic.Ra.Ura.{Ura}
use mir.Syntax.{named}
use mir.Val.{Val, vunit, vptr}
use base.Logic.{SProp, ent, sep, emp, via, fst∗, id⊢}
use base.Fml.{Fml, GName, Lft, Share, ftrue, flft, fobs, fbor}
use prog.Memory.{Memory}
use prog.Routine.{Routine}
use prog.Wp.{Calls, Loops, WpFn, Tables}
use types.Logic.{Logic}
use types.Kit.{‵, ◌⊛◌, ◌$◌, ◌∵◌, !, qed, by, move, keep, drop, use1, split, join, fsplit, fsplit3, fjoin, fjoin3, feq_i, suffices, frame, done}
use types.Run.{unit_lit, of_opd, returns, enter}
use types.ByLocal.{alloc_all, pass_all, free_all, look_at, sets}
use types.SemTy.{Body}
use contract.Monad.{Fun}
use contract.Running.{tables, tables_of}
use sound.WpLaws.{WpFn-mono}
use denote.Builtin.{u8, u64}
use denote.Exit.{yes}
use denote.Memory.{mem}
use denote.RattleType.{owns}
use denote.Ref.{Bor, MutRef, mut_vals, mut_Tells}
use denote.Signature.{plain}
use denote.Slice.{ShrSlice, slice_val, shr_slice_vals, shr_slice_Tells}
use denote.Steps.{opens, closes}
use denote.Triple.Entry.{on_entry}
use denote.Triple.Spec.{Meets, triple_of}
use denote.Triple.Table.{entered}
use denote.Triple.Walked.{says, Stays, stay_ref, stay_none_slice, walk_of, AllGo, Goes-ref, Goes-none_slice, Walks, ends_at, walked, walk_Meets}
use Rattle.djq_system.specs.declared.notes.Notes.{Notes}
use Rattle.djq_system.specs.contracts.notes.Notes as notes
use Rattle.djq_system.specs.contracts.notes.Notes.note as note
use Rattle.djq_system.specs.contracts.notes.Notes.note.Key.{name as #note}
use Rattle.djq_system.proofs.notes.Notes.note.Code as code
use Rattle.djq_system.proofs.notes.Notes.note.Statement as stated

-- what is passed: the borrow of the notes, the numbers and the bytes
abbrev Passed : Type 0
Passed = MutBor Notes × (Bor (List ℕ) × (Bor (List ℕ) × Unit {0}))

abbrev stay : Stays note.ended.signature.params note.ended.kept
stay = (
  stay_ref (0 ∷ []) tt (plain (λ _. notes.the_row)),
  (stay_none_slice (1 ∷ []) tt (plain (λ _. u64)) yes, (stay_none_slice (2 ∷ []) tt (plain (λ _. u8)) yes, tt)),
)

module _ {M : Type 1} {𝓤 : Ura M} (𝓛 : Logic 𝓤) (at_mem : Memory → SProp 𝓤) (run : Routine → Fun 𝓤)
    (κ0 κ1 κ2 : Lft) (q0 q1 q2 : Share) (block place : ℕ) (γ : GName) (before : Notes) (numbers bytes : Bor (List ℕ)) where
  open 𝓛 use {H, A}

  abbrev passed : Passed
  passed = (record { ref_ptr = (block, place); ghost_name = γ; now = before }, (numbers, (bytes, tt)))

  abbrev after : Notes
  after = record { marker = before.marker; calls = before.calls ++ (numbers.now, bytes.now) ∷ [] }

  abbrev self_val : Val
  self_val = vptr block place

  abbrev numbers_val : Val
  numbers_val = slice_val numbers.ref_ptr (length numbers.now)

  abbrev bytes_val : Val
  bytes_val = slice_val bytes.ref_ptr (length bytes.now)

  abbrev vals : List Val × (List Val × (List Val × Unit {0}))
  vals = (self_val ∷ [], (numbers_val ∷ [], (bytes_val ∷ [], tt)))

  -- the two slices, which nothing is done with
  abbrev slices : Fml
  slices = owns (ShrSlice (named 1) κ1 u64 ∷ ShrSlice (named 2) κ2 u8 ∷ []) passed.1 vals.1

  abbrev Post : Val → SProp 𝓤
  Post = (walk_of 𝓛 note.ended stay (note.clauses 𝓛 at_mem run)).post
      (((κ0, (κ1, (κ2, tt))), (q0, (q1, (q2, tt))), tt, passed, vals), tt)

  ends : ent 𝓤
      (sep 𝓤 (A.obs γ (notes.the_row.coded.code after)) (sep 𝓤 (A.bor κ0 (Body (mem notes.the_row) block place γ))
      (sep 𝓤 (A.lft κ0 q0) (sep 𝓤 (types.Logic.sem 𝓛 slices) (sep 𝓤 (A.lft κ1 q1) (sep 𝓤 (A.lft κ2 q2) (emp 𝓤)))))))
      (Post vunit)
  ends =
      qed 𝓛 (‵ (fobs γ (notes.the_row.coded.code after)) ∷ ‵ (fbor κ0 (Body (mem notes.the_row) block place γ))
      ∷ ‵ (flft κ0 q0) ∷ ‵ slices ∷ (‵ (flft κ1 q1) ⊛ (‵ (flft κ2 q2) ⊛ ‵ ftrue)) ∷ []) ∵
      suffices ! _ (ends_at 𝓛 note.ended stay (note.clauses 𝓛 at_mem run)
      (((κ0, (κ1, (κ2, tt))), (q0, (q1, (q2, tt))), tt, passed, vals), tt) vunit tt (after, (tt, (tt, tt))) (tt, (tt, (tt, tt)))) $
      says ! refl $ move ! (2 ∷ 4 ∷ []) $ join ! $ frame ! $
      feq_i ! (List Val) (self_val ∷ []) (self_val ∷ []) refl $ fjoin3 ! $ fjoin ! $
      feq_i ! (List Val) (vunit ∷ []) (vunit ∷ []) refl $ move ! (1 ∷ 0 ∷ []) $ done !

  walk : (C : Calls 𝓤 H) (Λ : Loops 𝓤 H) → length numbers.now < 2 ^ 64 → length bytes.now < 2 ^ 64
      → ent 𝓤 (on_entry 𝓛 note.signature (κ0, (κ1, (κ2, tt))) (q0, (q1, (q2, tt))) passed vals)
      (WpFn 𝓤 H C Λ code.function (self_val ∷ numbers_val ∷ bytes_val ∷ []) Post)
  walk C Λ numbers_fit bytes_fit =
      qed 𝓛 ((‵ (flft κ0 q0) ⊛ (‵ (flft κ1 q1) ⊛ (‵ (flft κ2 q2) ⊛ ‵ ftrue)))
      ∷ ‵ (owns (MutRef (named 0) κ0 notes.the_row ∷ ShrSlice (named 1) κ1 u64 ∷ ShrSlice (named 2) κ2 u8 ∷ []) passed vals) ∷ []) ∵
      split ! $ move ! (2 ∷ []) $ fsplit ! $ fsplit3 ! $ drop ! $ move ! (0 ∷ 1 ∷ 3 ∷ []) $
      enter ! C Λ code.function (self_val ∷ numbers_val ∷ bytes_val ∷ []) _ $
      alloc_all ! (λ places. pass_all ! refl
      ((tt, tt), ((tt, (tt, (record { fits = numbers_fit }, tt))), ((tt, (tt, (record { fits = bytes_fit }, tt))), tt))) $
      move ! (0 ∷ 1 ∷ 2 ∷ []) $ opens ! tt notes.the_row {h = before} block place (λ cells.
      sets ! (of_opd ! (unit_lit !)) refl (tt, tt) $
      move ! (1 ∷ []) $ use1 𝓛 (‵ (notes.the_row.own_val after cells)) (id⊢ 𝓤 _) $
      move ! (1 ∷ 0 ∷ []) $ closes ! tt notes.the_row after cells block place $
      returns ! (look_at ! 0 refl) $ free_all ! refl $ keep ! (0 ∷ 1 ∷ 2 ∷ 3 ∷ 4 ∷ []) $ by ! ends))

module _ {M : Type 1} {𝓤 : Ura M} (𝓛 : Logic 𝓤) (at_mem : Memory → SProp 𝓤) (run : Routine → Fun 𝓤) (𝓣 : Tables 𝓤 𝓛.H) where
  abbrev body : Fun 𝓤
  body = WpFn 𝓤 𝓛.H 𝓣.C 𝓣.Λ code.function

  walks : Walks 𝓛 note.ended stay body (note.clauses 𝓛 at_mem run)
  walks =
      walked 𝓛 note.ended stay (note.clauses 𝓛 at_mem run) body (λ κs. (mut_vals, (shr_slice_vals, (shr_slice_vals, tt))))
      (λ κs. (
        mut_Tells (named 0) κs.0 notes.the_row,
        (shr_slice_Tells (named 1) κs.1.0 u64, (shr_slice_Tells (named 2) κs.1.1.0 u8, tt)),
      ))
      (λ κs qs bounds a _ are. via 𝓤 _ (fst∗ 𝓤 _ (emp 𝓤))
      (walk 𝓛 at_mem run κs.0 κs.1.0 κs.1.1.0 qs.0 qs.1.0 qs.1.1.0 a.0.ref_ptr.0 a.0.ref_ptr.1 a.0.ghost_name a.0.now a.1.0 a.1.1.0
      𝓣.C 𝓣.Λ are.1.0.0.1.0 are.1.1.0.0.1.0))

  goes : AllGo 𝓛 3 note.signature.params note.ended.kept stay
  goes = (
    Goes-ref 𝓛 3 0 tt (plain (λ _. notes.the_row)),
    (Goes-none_slice 𝓛 3 (1 ∷ []) tt (plain (λ _. u64)) yes, (Goes-none_slice 𝓛 3 (2 ∷ []) tt (plain (λ _. u8)) yes, tt)),
  )

  meets : Meets 𝓛 note.signature body (note.spec 𝓛 at_mem run)
  meets =
      walk_Meets 𝓛 note.ended stay goes (note.clauses 𝓛 at_mem run) body (WpFn-mono 𝓤 𝓛.H 𝓛.laws 𝓣 code.function) walks

pub note_spec : {M : Type 1} → stated.statement M
unfolding tables_of
note_spec 𝓤 𝓛 𝓜 𝓡 wired =
    let all = tables 𝓤 𝓛.H 𝓜 𝓡 𝓡.env in
    entered 𝓤 𝓛.H (triple_of 𝓛 note.signature (note.spec 𝓛 𝓜.mem 𝓡.returns)) all.C all.Λ #note code.function
    (code.unfolded 𝓤 𝓛.H 𝓜 𝓡 wired) (meets 𝓛 𝓜.mem 𝓡.returns (tables_of 𝓤 𝓛.H 𝓜 all))
