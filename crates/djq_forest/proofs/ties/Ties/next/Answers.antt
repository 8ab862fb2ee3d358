-- What stands behind a slot of a list is linked behind it.
use Rattle.std.proofs.Common.{◌∙◌, ap, ℕ, List}
use Rattle.djq_forest.specs.declared.ties.Tie.{Tie}
use Rattle.djq_forest.proofs.TieChanges.{listed_place, place_within, next_by}
use Rattle.djq_forest.proofs.ties.Ties.next.Goals as goal

pub tie_of-requires : goal.tie_of-requires
tie_of-requires c = place_within c.self.inside.ties.items c.self.inside.heads.items c.args.slot _
    (listed_place c.self.inside.ties.items c.self.inside.heads.items c.args.slot c.self.invariant
    (rw (← c.self.view_is) at c.requires))

pub returns : goal.returns
returns c = rw (← c.self.view_is) (λ (xs ys : List ℕ) is.
    c.get.ensures ∙ ap (λ (t : Tie). t.beside.next) c.tie_of.ensures
    ∙ next_by c.self.inside.ties.items c.self.inside.heads.items c.args.slot xs ys c.self.invariant
    (rw (← c.self.view_is) at c.requires) is)
