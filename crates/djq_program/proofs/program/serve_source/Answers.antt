-- The session's run begins in the opening state; before that nothing is done.
use Rattle.std.proofs.Common.{ap, refl, arith}
use Rattle.djq_machine.specs.State.{State}
use Rattle.djq_program_laws.proofs.ProgramRuns.{serves, serves_nothing}
use Rattle.djq_program.proofs.program.serve_source.Goals as goal

pub returns-in_default : goal.returns-in_default
returns-in_default g c = serves_nothing _

pub run_session-requires-clause-room : goal.run_session-requires-clause-room
run_session-requires-clause-room g c = omega (arith, c.in-Ok-vec.ensures.len, c.deref_mut.ensures.len)

pub run_session-requires-clause-most : goal.run_session-requires-clause-most
run_session-requires-clause-most g c = omega (arith, c.in-Ok-vec.ensures.len, c.deref_mut.ensures.len)

pub run_session-requires-clause-alone : goal.run_session-requires-clause-alone
run_session-requires-clause-alone g c = ap (λ (st : State). st.sessions) c.in-Ok.ensures.state

pub run_session-requires-clause-going : goal.run_session-requires-clause-going
run_session-requires-clause-going g c = ap (λ (st : State). st.stopped) c.in-Ok.ensures.state

pub returns : goal.returns
returns g c = serves _ _ _ _ _ _ c.in-Ok.ensures.state refl c.run_session.ensures

pub returns-in_default-vec : goal.returns-in_default-vec
returns-in_default-vec g c = serves_nothing _
