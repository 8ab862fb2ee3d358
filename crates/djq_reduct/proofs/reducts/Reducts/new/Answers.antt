-- Without tuples each table is the reduct of its children's; columns, places and levels are the tree's.
use Rattle.std.proofs.Common.{◌≡◌, ℕ, List, ◌++◌, ◌∷◌, [], length, subst, sym, ap, arith, ◌∙◌}
use Rattle.djq_hypergraph.specs.declared.var_set.TheConstants.{VARIABLES}
use Rattle.djq_index.specs.Table.{Table}
use Rattle.djq_reduct.specs.Tables.{entries_at}
use Rattle.djq_reduct.specs.Heads.{head_places}
use Rattle.djq_reduct.specs.Reducts.{IsReducts}
use Rattle.djq_reduct.proofs.Assignments.{empty_tables, made_reducts, made_none, made_on, made_entries}
use Rattle.djq_reduct.proofs.reducts.Reducts.new.Goals as goal

pub loop-node-init : goal.loop-node-init
loop-node-init c = c.new-tables.ensures.items ∙ sym (made_none c.args.tree)

pub loop-node-preserved : goal.loop-node-preserved
loop-node-preserved c =
    c.in_ok-push.ensures.items
    ∙ ap (λ (ts : List Table). ts ++ c.in_ok-empty_table.field-0 ∷ []) c.loop-node.invariant
    ∙ ap (λ (t : Table). empty_tables c.args.tree c.loop-node.node ++ t ∷ []) c.in_ok-empty_table.ensures
    ∙ made_on c.args.tree c.loop-node.node

pub invariant_of-result : goal.invariant_of-result
invariant_of-result c =
    let count = c.len-node-end.ensures.count in
    let test = c.loop-node-test.false in
    let low = c.loop-node.auto.node-end in
    let all : c.loop-node.node ≡ length c.args.tree.nodes = omega arith in (
      subst (λ (ts : List Table). IsReducts (record { tree = c.args.tree; tables = ts }))
          (sym (c.loop-node.invariant ∙ ap (λ (n : ℕ). empty_tables c.args.tree n) all))
          (made_reducts c.args.tree c.len-node-end.ensures.tree c.requires),
      c.in_ok-columns.ensures,
      c.in_ok-places.ensures ∙ ap (λ (F : List ℕ). head_places F VARIABLES) c.head.ensures,
      c.in_ok-descent.ensures,
    )

pub returns-clause-empty : goal.returns-clause-empty
returns-clause-empty c k = ap (λ (ts : List Table). entries_at ts k) c.loop-node.invariant
    ∙ made_entries c.args.tree c.loop-node.node k
