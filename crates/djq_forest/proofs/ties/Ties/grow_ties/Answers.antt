-- New slots are tied to slot 0, and the lists stay.
use Rattle.std.proofs.Common.{List, sym, subst}
use Rattle.std.proofs.lemmas.Result.{IfOk-weaker, on_err_weaker}
use Rattle.djq_arena.proofs.Slots.{either}
use Rattle.djq_forest.specs.declared.ties.Tie.{Tie}
use Rattle.djq_forest.specs.Ties.{TiesAreSound}
use Rattle.djq_forest.proofs.TieGrowth.{more_ties_sound, more_ties_seen, same_ties_seen}
use Rattle.djq_forest.proofs.ties.Ties.grow_ties.Goals as goal

pub invariant_of-self : goal.invariant_of-self
invariant_of-self c =
    let ts = c.self.inside.ties.items in
    let heads = c.self.inside.heads.items in
    either c.resize_ties.result _ _ (TiesAreSound c.resize_ties.new.ties.items heads) c.resize_ties.ensures.more
    c.resize_ties.ensures.refused
    (λ _ is. more_ties_sound ts c.resize_ties.new.ties.items heads c.args.slots c.self.invariant c.requires is)
    (λ same. subst (λ (us : List Tie). TiesAreSound us heads) (sym same) c.self.invariant)

pub returns-clause-grown : goal.returns-clause-grown
returns-clause-grown c = rw (← c.self.view_is)
    (IfOk-weaker c.resize_ties.result _ _
    (λ _ is. more_ties_seen c.self.inside.ties.items c.resize_ties.new.ties.items c.self.inside.heads.items c.args.slots
    c.self.invariant is) c.resize_ties.ensures.more)

pub returns-clause-refused : goal.returns-clause-refused
returns-clause-refused c = rw (← c.self.view_is)
    (on_err_weaker c.resize_ties.result
    (same_ties_seen c.self.inside.ties.items c.resize_ties.new.ties.items c.self.inside.heads.items)
    c.resize_ties.ensures.refused)
