-- Rising numbers differ, so those given are all exactly where they are as many as there are.
use Rattle.std.proofs.Common.{◌+◌, arith}
use Rattle.djq_union.proofs.RisingNumbers.{some_taken, at_end, before_end}
use Rattle.djq_examples_store.proofs.union.RisingListing.advance.Goals as goal

pub returns-then-state-len-clause-end : goal.returns-then-state-len-clause-end
returns-then-state-len-clause-end g c =
    let m = c.args.self.now in
    at_end m.items.items m.rising c.args.state.now
    (let past = c.if-state-len.true in let len = c.len.ensures in omega (arith, past, len, m.items.ok.0))

pub returns-clause-answers : goal.returns-clause-answers
returns-clause-answers g c =
    let m = c.args.self.now in some_taken m.items.items m.rising (c.args.state.now + 1)

pub returns-clause-end : goal.returns-clause-end
returns-clause-end g c =
    let m = c.args.self.now in
    before_end m.items.items m.rising c.args.state.now
    (let low = c.if-state-len.false in let len = c.len.ensures in omega (arith, low, len, m.items.ok.0))
