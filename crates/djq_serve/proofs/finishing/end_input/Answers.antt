-- Where no line is left, a session that has input holds none.
use Rattle.std.proofs.Common.{◌∙◌, sym}
use Rattle.djq_serve.proofs.Rounds.{input_open, input_dry}
use Rattle.djq_serve.proofs.finishing.end_input.Goals as goal

pub end_session-requires-clause-open : goal.end_session-requires-clause-open
end_session-requires-clause-open g c = input_open (g.M.Machine.state c.args.machine.now) c.in-Ends.id
    (sym c.has_input.ensures ∙ c.if-has_input.true)

pub end_session-requires-clause-dry : goal.end_session-requires-clause-dry
end_session-requires-clause-dry g c = input_dry (g.M.Machine.state c.args.machine.now) c.in-Ends.id c.requires
    (sym c.has_input.ensures ∙ c.if-has_input.true)
