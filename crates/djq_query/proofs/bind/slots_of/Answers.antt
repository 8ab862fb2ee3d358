-- Slots of the terms seen and of those to come make up the whole list; past the end none is to come.
use Rattle.std.proofs.Common.{◌+◌, ◌∙◌, ap, sym, List, ◌++◌, drop}
use Rattle.djq_query.specs.declared.pattern.Slot.{Slot}
use Rattle.djq_query.specs.Pattern.{bound}
use Rattle.djq_query.proofs.Atoms.{bound_on, bound_over}
use Rattle.djq_query.proofs.bind.slots_of.Goals as goal

pub terms-preserved : goal.terms-preserved
terms-preserved c =
    ap (λ (ss : List Slot). ss ++ bound c.args.members.now (drop (c.terms.i + 1) c.args.terms.now)
    (drop (c.terms.i + 1) c.args.cells.now)) c.in_ok-push.ensures.ok
    ∙ bound_on c.terms.slots.items c.args.members.now c.args.terms.now c.args.cells.now c.terms.i c.index-terms-i.result
    c.slot_of.result c.terms-test.true c.requires c.index-terms-i.is c.slot_of.ensures
    ∙ c.terms.invariant

pub returns : goal.returns
returns c = sym (bound_over c.terms.slots.items c.args.members.now c.args.terms.now c.args.cells.now c.terms.i
    c.terms-test.false) ∙ c.terms.invariant
