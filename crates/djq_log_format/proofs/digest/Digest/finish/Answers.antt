-- Behind the bytes that are pending the zeros stand that fill up their word.
use Rattle.std.proofs.Common.{ap, ◌∙◌}
use Rattle.djq_log_format.specs.Digest.{carried, finished}
use Rattle.djq_log_format.proofs.Digesting.{finished_none, finished_some}
use Rattle.djq_log_format.proofs.digest.Digest.finish.Goals as goal

pub returns-then-self-eq0 : goal.returns-then-self-eq0
returns-then-self-eq0 c =
    let inside = c.self.inside in
    finished_none inside.digest inside.filled inside.pending c.if-self-eq0.true ∙ ap finished c.self.view_is

pub returns-else-self-eq0 : goal.returns-else-self-eq0
returns-else-self-eq0 c =
    let inside = c.self.inside in
    finished_some inside.digest inside.filled c.carry.result inside.pending c.self.invariant.0 c.if-self-eq0.false
    c.self.invariant.1 (c.carry.ensures ∙ ap (λ n. carried inside.digest n) c.from_be_bytes.ensures)
    ∙ ap finished c.self.view_is
