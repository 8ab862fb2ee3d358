-- A value that is refused is so as the only one of a list.
use Rattle.djq_binder.proofs.Interning.{one_refused}
use Rattle.djq_binder.proofs.constants.intern_constant.Goals as goal

pub returns-in-Err-clause-interns : goal.returns-in-Err-clause-interns
returns-in-Err-clause-interns c =
    one_refused c.args.catalog.now.texts c.intern.new.self.texts c.args.value.now c.in-Err.refusal
    c.in-Err.ensures.interns
