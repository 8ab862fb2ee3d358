-- A new machine stands in the opening state; out of memory the load ran out from there, or nothing was run.
use Rattle.std.proofs.Common.{refl, subst, inl}
use Rattle.djq_machine.specs.State.{State, opening}
use Rattle.djq_machine.specs.Call.{counts}
use Rattle.djq_load.specs.Totals.{RunsOut}
use Rattle.djq_program_laws.proofs.ProgramRuns.{where_err}
use Rattle.djq_program.proofs.load.summarize.Goals as goal

pub returns-in_default-clause-memory : goal.returns-in_default-clause-memory
returns-in_default-clause-memory g c = (opening, inl (inl (refl, refl)))

pub returns-in_err-totals-clause-memory : goal.returns-in_err-totals-clause-memory
returns-in_err-totals-clause-memory g c =
    let before = c.args.steps.now in
    let now = c.run_load.new.steps in
    let new = c.run_load.new.machine.state in
    where_err c.from_residual.result (
      new,
      inl (subst
          (λ (st : State). RunsOut c.args.n c.args.seed st (counts before.listing before.update before.rows) new
          (counts now.listing now.update now.rows))
          c.in-Ok.ensures.state c.in_err-totals.ensures.memory),
    )
