-- By induction over the nodes a table is known once its children's are, so equal leaves make equal tables.
use Rattle.std.proofs.Common.{subst}
use Rattle.djq_reduct.specs.Reducts.{IsReducts}
use Rattle.djq_reduct.proofs.Assignments.{one_family}
use Rattle.djq_reduct.proofs.reducts.Reducts.laws.Goals as goal

pub returns-clause-only : goal.returns-clause-only
returns-clause-only c other h same = one_family c.args.self.now other
    (subst IsReducts c.self.view_is c.self.invariant.0) h same
