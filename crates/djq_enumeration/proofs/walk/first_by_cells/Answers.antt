-- A level is of the second stage, so it is in `out`, and the copied cells are the answer's projection on it.
use Rattle.std.proofs.Common.{◌≡◌, ◌∙◌, List, ℕ, [], subst}
use Rattle.std.specs.Prelude.{IfSome, IfNone}
use Rattle.djq_enumeration.specs.Walk.{IsFirstAt}
use Rattle.djq_enumeration.proofs.Cells.{late_out}
use Rattle.djq_enumeration.proofs.walk.first_by_cells.Goals as goal

pub project-requires-clause-out : goal.project-requires-clause-out
project-requires-clause-out g c =
    late_out c.args.reducts.now.tree c.args.level c.laws.ensures.sound.family.is_tree
    c.requires.level.late c.requires.level.within

pub returns-clause-some : goal.returns-clause-some
returns-clause-some g c =
    let r = c.args.reducts.now in
    let menu = g.C.Choices.menu c.args.choices.now r in
    subst (λ (w : List ℕ). IfSome c.first.result
    (λ p. IsFirstAt r (menu c.args.level w) (record { level = c.args.level; place = p })))
    (c.as_slice.ensures ∙ c.project.ensures) c.first.ensures.some

pub returns-clause-none : goal.returns-clause-none
returns-clause-none g c =
    let r = c.args.reducts.now in
    let menu = g.C.Choices.menu c.args.choices.now r in
    subst (λ (w : List ℕ). IfNone c.first.result (menu c.args.level w ≡ []))
    (c.as_slice.ensures ∙ c.project.ensures) c.first.ensures.none
