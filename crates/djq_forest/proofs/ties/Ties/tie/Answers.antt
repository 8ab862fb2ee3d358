-- A slot that is in no list is tied to another one without a change of the lists.
use Rattle.djq_forest.proofs.Links.{length-tos}
use Rattle.djq_forest.proofs.TieGrowth.{retied_sound, retied_seen}
use Rattle.djq_forest.proofs.ties.Ties.tie.Goals as goal

pub set_to-requires : goal.set_to-requires
set_to-requires c = rw (← c.self.view_is, length-tos) at c.requires.within

pub invariant_of-self : goal.invariant_of-self
invariant_of-self c = retied_sound c.self.inside.ties.items _ c.self.inside.heads.items c.args.slot c.args.to
    c.self.invariant (rw (← c.self.view_is) at c.requires.out) c.set_to.ensures

pub returns : goal.returns
returns c = rw (← c.self.view_is)
    (retied_seen c.self.inside.ties.items _ c.self.inside.heads.items c.args.slot c.args.to c.self.invariant
    (rw (← c.self.view_is) at c.requires.out) c.set_to.ensures)
