-- A schedule's hub never fails and has at most a turn for each line, so one turn more finds it over.
use Rattle.std.proofs.Common.{ℕ, ◌+◌, ap, inl}
use Rattle.std.specs.Prelude.{Ok}
use Rattle.djq_machine.specs.State.{State}
use Rattle.djq_machine.specs.Call.{counts}
use Rattle.djq_program_laws.specs.Logged.{disk_seen, log_seen}
use Rattle.djq_program_laws.proofs.Logs.{logs_kept, is_stored, begins_still}
use Rattle.djq_program_laws.proofs.Replays.{made_steady, schedule_served, nothing_comes}
use Rattle.djq_program.proofs.replay.serve_schedule.Goals as goal

pub returns-in_default : goal.returns-in_default
returns-in_default g c = nothing_comes c.args.path _ (Ok c.args.hub.script.turns) c.args.bytes.now _

pub returns-in_default-vec : goal.returns-in_default-vec
returns-in_default-vec g c = nothing_comes c.args.path _ (Ok c.args.hub.script.turns) c.args.bytes.now _

pub open_log-requires : goal.open_log-requires
open_log-requires g c = record { fresh = c.in-Ok.ensures.state; closed = c.in-Ok.ensures.batch }

pub returns-in-Err : goal.returns-in-Err
returns-in-Err g c = inl c.in-Err.ensures.opens

pub of-hub-requires : goal.of-hub-requires
of-hub-requires g c = made_steady c.args.bytes.now c.args.hub c.requires

pub serve_logged-served-requires-clause-none : goal.serve_logged-served-requires-clause-none
serve_logged-served-requires-clause-none g c = ap (λ (st : State). st.sessions) (c.in-Ok-open_log.ensures.opens.2).fresh

pub serve_logged-served-requires-clause-going : goal.serve_logged-served-requires-clause-going
serve_logged-served-requires-clause-going g c = ap (λ (st : State). st.stopped) (c.in-Ok-open_log.ensures.opens.2).fresh

pub returns : goal.returns
returns g c =
    let told = g.D.Disk.told in
    let faults = g.D.Disk.faults in
    let before = c.args.steps.now in
    let mid = c.open_log.new.steps in
    let now = c.serve_logged-served.new.steps in
    let counted = counts before.listing before.update before.rows in
    let loaded = counts mid.listing mid.update mid.rows in
    let counted' = counts now.listing now.update now.rows in
    let first = disk_seen (told c.args.disk.now) (faults c.args.disk.now) in
    let last = disk_seen (told c.serve_logged-served.new.disk) (faults c.serve_logged-served.new.disk) in
    let log = log_seen c.args.path first last in
    let begun = c.in-Ok-open_log.ensures.opens in
    let served = c.serve_logged-served.ensures in
    let then = disk_seen (told c.open_log.new.disk) (faults c.open_log.new.disk) in
    let begins = begins_still c.args.path first then last begun.0 begun.1 counted c.open_log.new.machine.state loaded
    begun.2 in
    let kept = logs_kept c.args.path begun.0 begun.1 c.serve_logged-served.result _ c.in-Ok-open_log.log
    c.serve_logged-served.new.log first
    then last begun.3 (served.logs).kept served.disk served.nowhere in
    let stored = is_stored c.args.path begun.0 begun.1 c.in-Ok-open_log.log c.serve_logged-served.new.log first then
    last _ begun.3 (served.logs).logs in
    schedule_served c.tell_sent.result (λ made. made.0.items) (λ made. made.1) log begun.0 begun.1 c.args.bytes.now
    c.args.hub c.of-hub.result c.serve_logged-served.new.hub
    c.serve_logged-served.result _ counted loaded counted' c.open_log.new.machine.state
    c.serve_logged-served.new.machine.state c.ended_status.result begins c.requires c.of-hub.ensures
    (ap (λ (n : ℕ). n + 1) c.count_lines-most.ensures.counted)
    (record { ends = (served.logs).ends; logs = kept; stored = stored; silent = (served.logs).silent }) served.faults
    c.ended_status.ensures c.tell_sent.ensures
