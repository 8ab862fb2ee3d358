-- A slot is free if one is linked among the free ones, or if not all have been used.
use Rattle.std.proofs.Common.{arith, sym, ltb-true, ltb-false}
use Rattle.djq_forest.proofs.IndexChanges.{all_taken, some_free, unused_free}
use Rattle.djq_forest.proofs.index.Index.has_free.Goals as goal

pub returns-in-Some-clause-some : goal.returns-in-Some-clause-some
returns-in-Some-clause-some c = λ yes. some_free c.args.slots.now.tuples c.args.self.now.links.items c.args.self.now.free
    c.args.self.now.used c.in-Some._slot c.requires.free c.requires.within (sym c.in-Some.ensures)

pub returns-in-None-clause-some : goal.returns-in-None-clause-some
returns-in-None-clause-some c = λ yes. unused_free c.args.slots.now.tuples c.args.self.now.links.items
    c.args.self.now.free c.args.self.now.used c.requires.free
    (omega (arith, ltb-true _ _ yes, c.len.ensures))

pub returns-in-None-clause-none : goal.returns-in-None-clause-none
returns-in-None-clause-none c = λ no. all_taken c.args.slots.now.tuples c.args.self.now.links.items
    c.args.self.now.free c.args.self.now.used c.requires.free (sym c.in-None.ensures)
    (omega (arith, ltb-false _ _ no, c.len.ensures))
