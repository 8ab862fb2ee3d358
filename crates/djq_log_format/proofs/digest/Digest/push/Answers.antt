-- The byte stands behind those that are pending, and the eighth makes them a word.
use Rattle.std.proofs.Common.{ap, ◌∙◌}
use Rattle.djq_log_format.specs.Digest.{carried, absorbed}
use Rattle.djq_log_format.proofs.Digesting.{pushed_full, pushed_part}
use Rattle.djq_log_format.proofs.digest.Digest.push.Goals as goal

pub returns-then-self-eq8 : goal.returns-then-self-eq8
returns-then-self-eq8 c =
    let inside = c.self.inside in
    pushed_full inside.digest inside.filled c.args.byte c.carry-self-inside.result inside.pending c.self.invariant.0
    c.if-self-eq8.true c.self.invariant.1
    (c.carry-self-inside.ensures ∙ ap (λ n. carried inside.digest n) c.from_be_bytes.ensures)
    ∙ ap (λ s. absorbed s c.args.byte) c.self.view_is

pub returns-else-self-eq8 : goal.returns-else-self-eq8
returns-else-self-eq8 c =
    let inside = c.self.inside in
    pushed_part inside.digest inside.filled c.args.byte inside.pending c.self.invariant.0 c.if-self-eq8.false
    c.self.invariant.1
    ∙ ap (λ s. absorbed s c.args.byte) c.self.view_is
