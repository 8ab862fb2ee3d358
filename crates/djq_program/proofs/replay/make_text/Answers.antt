-- The turns that the hub was made with are those of the schedule's bytes.
use Rattle.std.proofs.Common.{List, ℕ, sym, subst}
use Rattle.std.specs.Prelude.{Result, MatchResult}
use Rattle.djq_io.specs.declared.hub.Coming.{Coming}
use Rattle.djq_machine.specs.Call.{counts}
use Rattle.djq_program_laws.specs.Logged.{disk_seen, log_seen}
use Rattle.djq_program_laws.specs.Replay.{ReplayComesTo, ComesToNothing}
use Rattle.djq_program.proofs.replay.make_text.Goals as goal

pub returns-in-Ok : goal.returns-in-Ok
returns-in-Ok g c =
    let told = g.D.Disk.told in
    let faults = g.D.Disk.faults in
    let before = c.args.steps.now in
    let now = c.serve_schedule.new.steps in
    let counted = counts before.listing before.update before.rows in
    let counted' = counts now.listing now.update now.rows in
    let log = log_seen c.args.path (disk_seen (told c.args.disk.now) (faults c.args.disk.now))
    (disk_seen (told c.serve_schedule.new.disk) (faults c.serve_schedule.new.disk)) in
    subst
    (λ (r : Result (List Coming) ℕ). MatchResult c.serve_schedule.result
    (λ made. ReplayComesTo log r c.args.bytes.now counted counted' made.0.items made.1)
    (λ status. ComesToNothing log status r c.args.bytes.now counted counted'))
    (sym c.in-Ok.ensures.turns) c.serve_schedule.ensures
