-- None of the sessions has a line, wherever it is.
use Rattle.std.proofs.Common.{◌∙◌, sym, ap, subst, not, List}
use Rattle.djq_commands.specs.declared.open.OpenSession.{OpenSession}
use Rattle.djq_core.specs.Sessions.{QuietOutside}
use Rattle.djq_core.proofs.Quiet.{quiet_everywhere}
use Rattle.djq_core.proofs.sessions.Sessions.settle.Goals as goal

pub invariant_of-self : goal.invariant_of-self
invariant_of-self c = (
  c.self.invariant.0,
  subst (λ (xs : List OpenSession). QuietOutside xs 18446744073709551615 0) (sym c.self.view_is)
      (quiet_everywhere c.args.self.now c.first_ready.result 18446744073709551615 0 (c.is_none.ensures ∙ ap not c.if-is_none.true)
      c.first_ready.ensures),
)
