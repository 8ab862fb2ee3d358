-- The list of ids has one for each open session, so where it is empty none is open.
use Rattle.std.proofs.Common.{sym, ◌∙◌}
use Rattle.std.proofs.lemmas.Bool.{eqb-true}
use Rattle.djq_core.proofs.Queues.{none_listed}
use Rattle.djq_examples_store.proofs.sessions.is_idle.Goals as goal

pub returns : goal.returns
returns c = λ e. none_listed ((c.args.core.now).state).sessions c.ids.result.now c.ids.ensures
    (eqb-true _ _ (sym c.is_empty.ensures ∙ e))
