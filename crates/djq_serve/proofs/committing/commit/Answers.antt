-- The lines are in the log before anything is sent; and if they aren't, nothing is.
use Rattle.std.proofs.Common.{refl}
use Rattle.djq_log.specs.declared.log.Kept.TheVariants.{All, Failed, Full}
use Rattle.djq_serve.proofs.LoggedGroups.{logs_lines, failed_isnt_all, full_isnt_all}
use Rattle.djq_serve.proofs.Lining.{commit_stored, commit_fails, commit_fills}
use Rattle.djq_serve.proofs.Working.{spares_same}
use Rattle.djq_serve.proofs.committing.commit.Goals as goal

pub returns-in-All-clause-makes : goal.returns-in-All-clause-makes
returns-in-All-clause-makes g c =
    let state = g.M.Machine.state in
    let told = g.D.Disk.told in
    let lines = g.M.Machine.commit c.args.machine.now in
    let kept = c.in-All.ensures in
    rw c.clear_commit.ensures.state
    (commit_stored _ _ (state c.args.machine.now) (state c.flush.new.machine) lines _ _
    (logs_lines lines All c.args.log.now c.keep.new.self (told c.args.disk.now) (told c.keep.new.disk) kept.none
    kept.room kept.told kept.moments) c.flush.ensures.flushes)

pub returns-in-All-clause-empty : goal.returns-in-All-clause-empty
returns-in-All-clause-empty g c e = c.clear_commit.ensures.commit

pub returns-in-All-clause-agrees : goal.returns-in-All-clause-agrees
returns-in-All-clause-agrees g c = rw c.clear_commit.ensures.state c.flush.ensures.agrees

pub returns-in-All-clause-spares : goal.returns-in-All-clause-spares
returns-in-All-clause-spares g c = rw c.clear_commit.ensures.state c.flush.ensures.spares

pub returns-in-All-clause-nowhere : goal.returns-in-All-clause-nowhere
returns-in-All-clause-nowhere g c none = (refl, (c.in-All.ensures.nowhere none).1)

-- The disk failed.

pub returns-in-Failed-clause-makes : goal.returns-in-Failed-clause-makes
returns-in-Failed-clause-makes g c =
    let state = g.M.Machine.state in
    let told = g.D.Disk.told in
    let lines = g.M.Machine.commit c.args.machine.now in
    let kept = c.in-Failed.ensures in
    commit_fails _ (state c.args.machine.now) lines _ _ c.args.log.now
    (logs_lines lines Failed c.args.log.now c.keep.new.self (told c.args.disk.now) (told c.keep.new.disk) kept.none
    kept.room kept.told kept.moments) kept.room

pub returns-in-Failed-clause-empty : goal.returns-in-Failed-clause-empty
returns-in-Failed-clause-empty g c e = absurd cc

pub returns-in-Failed-clause-spares : goal.returns-in-Failed-clause-spares
returns-in-Failed-clause-spares g c = spares_same (g.M.Machine.state c.args.machine.now)

pub returns-in-Failed-clause-nowhere : goal.returns-in-Failed-clause-nowhere
returns-in-Failed-clause-nowhere g c none = absurd (failed_isnt_all (c.in-Failed.ensures.nowhere none).0)

-- The log had no room.

pub returns-in-Full-clause-makes : goal.returns-in-Full-clause-makes
returns-in-Full-clause-makes g c =
    let state = g.M.Machine.state in
    let told = g.D.Disk.told in
    let lines = g.M.Machine.commit c.args.machine.now in
    let kept = c.in-Full.ensures in
    commit_fills _ (state c.args.machine.now) lines _ _ c.args.log.now
    (logs_lines lines Full c.args.log.now c.keep.new.self (told c.args.disk.now) (told c.keep.new.disk) kept.none
    kept.room kept.told kept.moments) kept.room

pub returns-in-Full-clause-empty : goal.returns-in-Full-clause-empty
returns-in-Full-clause-empty g c e = absurd cc

pub returns-in-Full-clause-spares : goal.returns-in-Full-clause-spares
returns-in-Full-clause-spares g c = spares_same (g.M.Machine.state c.args.machine.now)

pub returns-in-Full-clause-nowhere : goal.returns-in-Full-clause-nowhere
returns-in-Full-clause-nowhere g c none = absurd (full_isnt_all (c.in-Full.ensures.nowhere none).0)
