-- A level without columns has the empty key, whatever the answer is.
use Rattle.std.proofs.Common.{◌≡◌, ◌∙◌, List, ℕ, [], length, ap, sym, subst, rules}
use Rattle.std.specs.Prelude.{IfSome, IfNone}
use Rattle.djq_tree.specs.Labels.{label_at}
use Rattle.djq_reduct.specs.Answers.{on_node}
use Rattle.djq_reduct.specs.Columns.{columns}
use Rattle.djq_enumeration.specs.Walk.{IsFirstAt}
use Rattle.djq_enumeration.proofs.Cells.{pick_none}
use Rattle.djq_enumeration.proofs.walk.first_at.Goals as goal

pub returns-in-0-clause-some : goal.returns-in-0-clause-some
unfolding on_node
returns-in-0-clause-some g c =
    let r = c.args.reducts.now in
    let t = r.tree in
    let menu = g.C.Choices.menu c.args.choices.now r in
    subst (λ (w : List ℕ). IfSome c.first.result
    (λ p. IsFirstAt r (menu c.args.level w) (record { level = c.args.level; place = p })))
    (sym (pick_none (columns t.head (label_at t.labels c.args.level)) c.args.answer.now
    (ap (λ (cs : List ℕ). length cs) (sym c.columns-columns.ensures) ∙ search rules))) c.first.ensures.some

pub returns-in-0-clause-none : goal.returns-in-0-clause-none
unfolding on_node
returns-in-0-clause-none g c =
    let r = c.args.reducts.now in
    let t = r.tree in
    let menu = g.C.Choices.menu c.args.choices.now r in
    subst (λ (w : List ℕ). IfNone c.first.result (menu c.args.level w ≡ []))
    (sym (pick_none (columns t.head (label_at t.labels c.args.level)) c.args.answer.now
    (ap (λ (cs : List ℕ). length cs) (sym c.columns-columns.ensures) ∙ search rules))) c.first.ensures.none
