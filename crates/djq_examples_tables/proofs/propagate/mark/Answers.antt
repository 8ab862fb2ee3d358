-- A tuple that lies at a place is among the entries, so it is there at least once.
use Rattle.std.proofs.Common.{◌<◌, List, subst}
use Rattle.djq_index.specs.Entries.{Entry, count_of}
use Rattle.djq_index.proofs.Tuples.{there}
use Rattle.djq_examples_tables.proofs.propagate.mark.Goals as goal

pub mark_tuple-requires-clause-there : goal.mark_tuple-requires-clause-there
mark_tuple-requires-clause-there g c =
    let a = c.in-Some.ensures.found in
    subst (λ (es : List Entry). 0 < count_of es c.args.tuple.now) c.table.ensures.entries
    (there c.table.result.now.entries a.front a.entry a.back c.args.tuple.now a.is a.tuple)
