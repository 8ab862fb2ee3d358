-- The ids that are kept are those that the definition's test lets through, in their order.
use Rattle.std.proofs.Common.{nat_eq, not, rules}
use Rattle.std.proofs.lemmas.Fn.{filter_same}
use Rattle.djq_schedule.proofs.sessions_so_far.remove.Goals as goal

pub returns : goal.returns
returns c = filter_same _ (λ x. not (nat_eq x c.args.id)) _ (λ x b f k. search rules) _ _ c.retain.ensures.filtered
