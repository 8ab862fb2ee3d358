-- A level is a trim, so its tuples are chosen from its child, which the tree has among its nodes.
use Rattle.std.proofs.Common.{◌∙◌, ap, sym, subst, ℕ, ◌<◌, length}
use Rattle.djq_enumeration.specs.Levels.{child_of, source}
use Rattle.djq_enumeration.proofs.Cells.{source_within}
use Rattle.djq_enumeration.proofs.levels.source.Goals as goal

pub returns-clause-source : goal.returns-clause-source
unfolding source
returns-clause-source c = sym (ap child_of (sym c.node.ensures ∙ c.in-Trim.is))

pub returns-clause-within : goal.returns-clause-within
unfolding source
returns-clause-within c =
    subst (λ (n : ℕ). n < length c.args.tree.now.nodes)
    (ap child_of (sym c.node.ensures ∙ c.in-Trim.is))
    (source_within c.args.tree.now c.args.level c.len-nodes.ensures.tree c.requires)
