-- If a batch is open, `abandon` ends it, and what the append did to the log says what the log has of it.
use Rattle.std.proofs.Common.{rules, refl, sym, subst}
use Rattle.std.specs.Prelude.{IsSome, Option}
use Rattle.djq_disk.specs.History.{WhereHistoryTold}
use Rattle.djq_log.specs.Logging.{Keeps, Overfull, FullChangesNothing}
use Rattle.djq_log.specs.declared.end.LogEnd.{LogEnd}
use Rattle.djq_log.specs.declared.log.Kept.TheVariants.{All as Stored, Failed as Unstored}
use Rattle.djq_commands.specs.Views.{loading_in}
use Rattle.djq_program_laws.specs.Logged.{disk_seen, abandoning}
use Rattle.djq_program_laws.proofs.Logs.{batch_ended, fails_to_end, has_no_room}
use Rattle.djq_program.proofs.log.end_batch.Goals as goal

pub returns-in-All-clause-ends : goal.returns-in-All-clause-ends
returns-in-All-clause-ends g c =
    let told = g.D.Disk.told in
    let faults = g.D.Disk.faults in
    let is_open : IsSome (loading_in c.args.machine.now).batch = search rules in
    let first = c.of-log.ensures in
    batch_ended c.args.end c.keep.new.self (loading_in c.args.machine.now) (loading_in c.load.new.self) c.load.result
    (disk_seen (told c.args.disk.now) (faults c.args.disk.now))
    (disk_seen (told c.keep.new.disk) (faults c.keep.new.disk)) is_open c.load.ensures.loads
    (c.in-All.ensures.ends refl (subst (λ (o : Option LogEnd). IsSome o) (sym first) refl)) c.in-All.ensures.faults
    (subst (λ (o : Option LogEnd). WhereHistoryTold (told c.args.disk.now) (told c.keep.new.disk)
    (Keeps Stored o c.keep.new.self abandoning)) first c.in-All.ensures.told)

pub returns-in-Failed-clause-ends : goal.returns-in-Failed-clause-ends
returns-in-Failed-clause-ends g c =
    let told = g.D.Disk.told in
    let faults = g.D.Disk.faults in
    let is_open : IsSome (loading_in c.args.machine.now).batch = search rules in
    let first = c.of-log.ensures in
    fails_to_end c.args.end c.keep.new.self (loading_in c.args.machine.now)
    (disk_seen (told c.args.disk.now) (faults c.args.disk.now))
    (disk_seen (told c.keep.new.disk) (faults c.keep.new.disk)) is_open c.in-Failed.ensures.faults
    (subst (λ (o : Option LogEnd). WhereHistoryTold (told c.args.disk.now) (told c.keep.new.disk)
    (Keeps Unstored o c.keep.new.self abandoning)) first c.in-Failed.ensures.told)

pub returns-in-Full-clause-ends : goal.returns-in-Full-clause-ends
returns-in-Full-clause-ends g c =
    let told = g.D.Disk.told in
    let faults = g.D.Disk.faults in
    let is_open : IsSome (loading_in c.args.machine.now).batch = search rules in
    let first = c.of-log.ensures in
    has_no_room c.args.end (loading_in c.args.machine.now)
    (disk_seen (told c.args.disk.now) (faults c.args.disk.now))
    (disk_seen (told c.keep.new.disk) (faults c.keep.new.disk)) is_open c.in-Full.ensures.faults
    (subst (λ (o : Option LogEnd). Overfull o abandoning) first c.in-Full.ensures.room)
    (subst (λ (o : Option LogEnd). WhereHistoryTold (told c.args.disk.now) (told c.keep.new.disk)
    (FullChangesNothing o)) first (c.in-Full.ensures.full refl))
