-- Where as many are left as there are entries, the walk stands at the first of all.
use Rattle.djq_database.proofs.Entries.{starts}
use Rattle.djq_database.proofs.walk.Walk.new.Goals as goal

pub invariant_of-result : goal.invariant_of-result
invariant_of-result g c = starts c.args.rows.now c.first-next.result c.len.result c.len.ensures
    c.first-next.ensures.first
