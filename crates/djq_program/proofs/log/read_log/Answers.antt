-- What opening the file and finding a log in it did, and what loading its lines did, come to what reading the log does.
use Rattle.std.proofs.Common.{[], ◌∙◌, Option, ap}
use Rattle.std.proofs.lemmas.Result.{MatchResult-weaker}
use Rattle.djq_store_spec.specs.Held.{HeldTransaction}
use Rattle.djq_machine.specs.State.{State}
use Rattle.djq_machine.specs.Call.{counts}
use Rattle.djq_machine.specs.Loading.{loading}
use Rattle.djq_commands.specs.Views.{loading_in}
use Rattle.djq_program_laws.specs.Logged.{disk_seen}
use Rattle.djq_program_laws.proofs.Openings.{ready_first}
use Rattle.djq_program_laws.proofs.Logs.{made_reads, read_whole, unloaded_begins, unasked_begins, unopened_begins}
use Rattle.djq_program_laws.proofs.Logs.{unknown_begins}
use Rattle.djq_program.proofs.log.read_log.Goals as goal

pub load_lines-requires-clause-first : goal.load_lines-requires-clause-first
load_lines-requires-clause-first g c = ready_first c.in-Ready-find_log.source _ _ c.in-Ready-find_log.ensures.told

pub returns-in-Failed-clause-reads : goal.returns-in-Failed-clause-reads
returns-in-Failed-clause-reads g c = unasked_begins c.args.path.now
    (disk_seen (g.D.Disk.told c.args.disk.now) (g.D.Disk.faults c.args.disk.now))
    (disk_seen (g.D.Disk.told c.open.new.self) (g.D.Disk.faults c.open.new.self)) _ c.in-Failed.ensures.faults
    c.in-Failed.ensures.told

pub returns-in-Made-clause-reads : goal.returns-in-Made-clause-reads
returns-in-Made-clause-reads g c =
    let told = g.D.Disk.told in
    let faults = g.D.Disk.faults in
    made_reads c.args.path.now (disk_seen (told c.args.disk.now) (faults c.args.disk.now))
    (disk_seen (told c.open.new.self) (faults c.open.new.self))
    (disk_seen (told c.find_log.new.disk) (faults c.find_log.new.disk)) c.in-Made.end (loading_in c.args.machine.now)
    c.args.machine.now.state c.args.steps.now.listing
    (ap (λ (b : Option HeldTransaction). record { store = c.args.machine.now.state.store; batch = b }) c.requires.closed
    ∙ ap (λ (st : State). loading st.store) c.requires.fresh)
    c.requires.fresh c.in-Ready.ensures.faults c.in-Made.ensures.faults c.in-Ready.ensures.told c.in-Made.ensures.told

pub returns-in-Unknown-clause-reads : goal.returns-in-Unknown-clause-reads
returns-in-Unknown-clause-reads g c =
    let told = g.D.Disk.told in
    let faults = g.D.Disk.faults in
    unknown_begins c.args.path.now (disk_seen (told c.args.disk.now) (faults c.args.disk.now))
    (disk_seen (told c.open.new.self) (faults c.open.new.self))
    (disk_seen (told c.find_log.new.disk) (faults c.find_log.new.disk)) _ c.in-Ready.ensures.faults
    c.in-Unknown.ensures.faults c.in-Ready.ensures.told c.in-Unknown.ensures.told

pub returns-in-Failed-find_log-clause-reads : goal.returns-in-Failed-find_log-clause-reads
returns-in-Failed-find_log-clause-reads g c =
    let told = g.D.Disk.told in
    let faults = g.D.Disk.faults in
    unopened_begins c.args.path.now (disk_seen (told c.args.disk.now) (faults c.args.disk.now))
    (disk_seen (told c.open.new.self) (faults c.open.new.self))
    (disk_seen (told c.find_log.new.disk) (faults c.find_log.new.disk)) _ c.in-Ready.ensures.faults
    c.in-Failed-find_log.ensures.faults c.in-Ready.ensures.told c.in-Failed-find_log.ensures.told

pub returns-in-Ready-find_log-clause-reads : goal.returns-in-Ready-find_log-clause-reads
returns-in-Ready-find_log-clause-reads g c =
    let told = g.D.Disk.told in
    let faults = g.D.Disk.faults in
    let before = c.args.steps.now in
    let now = c.load_lines.new.steps in
    let first = disk_seen (told c.args.disk.now) (faults c.args.disk.now) in
    let mid = disk_seen (told c.open.new.self) (faults c.open.new.self) in
    let then = disk_seen (told c.find_log.new.disk) (faults c.find_log.new.disk) in
    let last = disk_seen (told c.load_lines.new.disk) (faults c.load_lines.new.disk) in
    let source = c.in-Ready-find_log.source in
    let opened = c.in-Ready.ensures in
    let found = c.in-Ready-find_log.ensures in
    MatchResult-weaker c.load_lines.result
    c.load_lines.ensures.loads
    (λ end loads. read_whole c.args.path.now first mid then last source end (loading_in c.load_lines.new.machine)
    c.load_lines.new.machine.state before.listing now.listing opened.faults found.faults opened.told found.told loads)
    (λ status stops. unloaded_begins c.args.path.now first mid then last source status
    (counts before.listing before.update before.rows) (counts now.listing now.update now.rows) opened.faults
    found.faults opened.told found.told stops)
