-- Two places differ as numbers just where they do as words of 64 bits, so the same ones are kept.
use Rattle.std.proofs.Common.{rules}
use Rattle.std.specs.Prelude.{◌==◌, not}
use Rattle.std.proofs.lemmas.Fn.{filter_same}
use Rattle.djq_store.proofs.leaving.leave_out.Goals as goal

pub returns-clause-items : goal.returns-clause-items
returns-clause-items c =
    filter_same _ (λ x. not (x == c.args.at)) _ (λ x b f k. search rules) _ _ c.retain.ensures.filtered
