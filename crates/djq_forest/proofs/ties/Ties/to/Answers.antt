-- There are as many ties as slots, and the one that is read is what is seen of it.
use Rattle.std.proofs.Common.{sym, ◌∙◌, ap}
use Rattle.djq_forest.specs.declared.ties.Tie.{Tie}
use Rattle.djq_forest.proofs.Links.{length-tos, tos_at}
use Rattle.djq_forest.proofs.ties.Ties.to.Goals as goal

pub tie_of-requires : goal.tie_of-requires
tie_of-requires c = rw (← c.self.view_is, length-tos) at c.requires

pub returns : goal.returns
returns c = rw (← c.self.view_is)
    (ap (λ (t : Tie). t.to) c.tie_of.ensures ∙ sym (tos_at c.self.inside.ties.items c.args.slot))
