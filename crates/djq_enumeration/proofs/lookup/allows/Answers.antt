-- The table has the projection exactly where the lookup finds a place, and here the node is in `out`.
use Rattle.std.proofs.Common.{◌≡◌, ◌∙◌, true, sym, rules}
use Rattle.std.proofs.lemmas.Bool.{true_from_ne_false}
use Rattle.djq_tree.specs.Tree.{is_out}
use Rattle.djq_enumeration.proofs.States.{looked_up, not_there}
use Rattle.djq_enumeration.proofs.lookup.allows.Goals as goal

pub returns-clause-exact : goal.returns-clause-exact
returns-clause-exact g c =
    let r = c.args.reducts.now in
    let out : is_out r.tree.out c.args.node ≡ true = search rules in
    let tuple = c.as_slice.ensures ∙ c.project.ensures in (
      λ e _. looked_up r c.args.node c.table.result.now.entries c.as_slice.result.now
          c.args.answer.now c.find.result c.table.ensures.entries tuple c.find.ensures.found
          (sym c.is_some.ensures ∙ e),
      λ there. true_from_ne_false c.is_some.result
          (λ e. not_there r c.args.node c.table.result.now.entries c.as_slice.result.now
          c.args.answer.now c.find.result c.table.ensures.entries tuple c.find.ensures.found
          (sym c.is_some.ensures ∙ e) (there out)),
    )
