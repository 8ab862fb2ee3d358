-- Rising numbers differ, so one is left exactly where fewer were given than there are.
use Rattle.std.proofs.Common.{arith}
use Rattle.djq_union.proofs.RisingNumbers.{left_taken}
use Rattle.djq_examples_store.proofs.union.RisingListing.is_left.Goals as goal

pub returns-clause-left : goal.returns-clause-left
returns-clause-left g c =
    let m = c.args.self.now in
    left_taken m.items.items m.rising c.args.state.now c.len.result
    (let len = c.len.ensures in omega (arith, len, m.items.ok.0))
