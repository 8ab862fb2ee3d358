-- Without a path nothing is loaded; with one, its lines are loaded before the batch they leave open is ended.
use Rattle.std.proofs.Common.{[], Bor, refl, sym, ap, subst, arith}
use Rattle.std.specs.Prelude.{Option, None, Some, Result, Ok, Err, IfOk, IfSome}
use Rattle.std.proofs.lemmas.Result.{MatchResult-weaker}
use Rattle.djq_model.specs.Data.{Bytes}
use Rattle.djq_machine.specs.State.{State}
use Rattle.djq_machine.specs.Call.{counts}
use Rattle.djq_log.specs.declared.end.LogEnd.{LogEnd}
use Rattle.djq_run.specs.declared.status.Status.{Status}
use Rattle.djq_commands.specs.Views.{loading_in}
use Rattle.djq_program_laws.specs.Logged.{disk_seen, log_seen}
use Rattle.djq_program_laws.specs.Parts.{OpensLog}
use Rattle.djq_program_laws.proofs.Logs.{begins_empty, never_began, ended_begins, unended_begins}
use Rattle.djq_program.proofs.log.open_log.Goals as goal

-- what holds of the disk holds if a log was opened
if_opened : {P : Type 0} (opened : Result (Option LogEnd) Status) → P → IfOk opened (λ log. IfSome log (λ _. P))
if_opened (Ok None) p = tt
if_opened (Ok (Some end)) p = p
if_opened (Err status) p = tt

pub returns-in-Ok-read_log-clause-is_open : goal.returns-in-Ok-read_log-clause-is_open
returns-in-Ok-read_log-clause-is_open g c = if_opened c.end_batch.result c.end_batch.ensures.is_open

pub returns-in_default-clause-opens : goal.returns-in_default-clause-opens
returns-in_default-clause-opens g c =
    let seen = disk_seen (g.D.Disk.told c.args.disk.now) (g.D.Disk.faults c.args.disk.now) in
    let before = c.args.steps.now in
    let counted = counts before.listing before.update before.rows in
    subst
    (λ (path : Option (Bor Bytes)). OpensLog (log_seen path seen seen) (Ok c.nowhere.result) c.args.machine.now.state
    counted counted) (sym c.in_default.is)
    ([], [], begins_empty counted c.args.machine.now.state c.requires.fresh, c.nowhere.ensures)

-- Out of memory nothing was asked of the disk.
pub returns-in_default-vec-clause-opens : goal.returns-in_default-vec-clause-opens
returns-in_default-vec-clause-opens g c = never_began c.args.path _ _

pub returns-in_default-new-clause-opens : goal.returns-in_default-new-clause-opens
returns-in_default-new-clause-opens g c = never_began c.args.path _ _

pub read_log-requires-clause-room : goal.read_log-requires-clause-room
read_log-requires-clause-room g c = omega (arith, c.in-Ok.ensures.len, c.deref_mut.ensures.len)

pub end_batch-requires : goal.end_batch-requires
end_batch-requires g c = record {
  none = ap (λ (st : State). st.sessions) c.in-Ok-read_log.ensures.reads.fresh;
  is_open = c.in-Ok-read_log.ensures.is_open;
}

pub returns-in-Ok-read_log-clause-opens : goal.returns-in-Ok-read_log-clause-opens
returns-in-Ok-read_log-clause-opens g c =
    let told = g.D.Disk.told in
    let faults = g.D.Disk.faults in
    let before = c.args.steps.now in
    let then = c.read_log.new.steps in
    let now = c.end_batch.new.steps in
    let counted = counts before.listing before.update before.rows in
    let loaded = counts now.listing now.update now.rows in
    let first = disk_seen (told c.args.disk.now) (faults c.args.disk.now) in
    let mid = disk_seen (told c.read_log.new.disk) (faults c.read_log.new.disk) in
    let last = disk_seen (told c.end_batch.new.disk) (faults c.end_batch.new.disk) in
    let state = c.read_log.new.machine.state in
    let start = c.end_batch.new.machine.state in
    let end = loading_in c.read_log.new.machine in
    let new = loading_in c.end_batch.new.machine in
    let path = c.in-Some.path.now in
    let ended = c.end_batch.ensures in
    subst (λ (path : Option (Bor Bytes)). OpensLog (log_seen path first last) c.end_batch.result start counted loaded)
    (sym c.in-Some.is)
    (MatchResult-weaker c.end_batch.result
    ended.ends
    (λ log ends. ended_begins path first mid last c.in-Ok-read_log.end log end new state start counted loaded
    then.listing c.in-Ok-read_log.ensures.reads ends refl ended.rest ended.listing)
    (λ status cant. unended_begins path first mid last c.in-Ok-read_log.end status end state counted loaded
    then.listing c.in-Ok-read_log.ensures.reads cant ended.listing))

pub returns-clause-opens : goal.returns-clause-opens
returns-clause-opens g c =
    let told = g.D.Disk.told in
    let faults = g.D.Disk.faults in
    let before = c.args.steps.now in
    let now = c.read_log.new.steps in
    let first = disk_seen (told c.args.disk.now) (faults c.args.disk.now) in
    let last = disk_seen (told c.read_log.new.disk) (faults c.read_log.new.disk) in
    subst (λ (path : Option (Bor Bytes)). OpensLog (log_seen path first last) (Err c.in-Err.status)
    c.read_log.new.machine.state (counts before.listing before.update before.rows)
    (counts now.listing now.update now.rows)) (sym c.in-Some.is) c.in-Err.ensures.reads
