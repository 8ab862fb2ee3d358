-- The records are synced behind the closed gate before it is opened, so a stop leaves the group or nothing.
use Rattle.std.proofs.Common.{inl, [], ◌∷◌}
use Rattle.djq_disk.specs.History.{History, Syncs}
use Rattle.djq_disk.specs.WritingDown.{WritesDown}
use Rattle.djq_disk.specs.declared.disk.DiskDid.TheVariants.{Done, Failed}
use Rattle.djq_disk.proofs.Files.{told_so, told_both, leaves_so}
use Rattle.djq_journal.specs.Format.{FileOpensTo}
use Rattle.djq_journal.specs.Standing.{IsIdle}
use Rattle.djq_journal.specs.Appending.{IsBeforeOrAfter}
use Rattle.djq_journal.specs.Staging.{IsStaged, AppendsAt}
use Rattle.djq_journal.specs.Passing.{HasPassed}
use Rattle.djq_journal.proofs.Appends.{unsynced, gate_opened, goes_both, goes_sync, goes_down}
use Rattle.djq_journal.proofs.appending.append_at.Goals as goal

pub returns-in-Done-sync-clause-told : goal.returns-in-Done-sync-clause-told
returns-in-Done-sync-clause-told g c lines =
    let group = g.G.Group.lines c.args.group.now in
    let gate = c.args.gate in
    told_both _ _ _ (λ o s. (m : History) × (IsIdle lines gate o.file → IsStaged Done lines gate group o m)
    × Syncs Done m s)
    (WritesDown c.write_down.result gate (1 ∷ []))
    (λ o n. IsIdle lines gate o.file → AppendsAt c.write_down.result lines gate group o n)
    (λ o s n staged writes idle.
    gate_opened c.write_down.result lines group gate o staged.0 s n c.requires.lines c.requires.some idle
    (staged.1 idle) staged.2 writes)
    (told_both _ _ _ (λ o m. IsIdle lines gate o.file → IsStaged Done lines gate group o m) (Syncs Done)
    (λ o s. (m : History) × (IsIdle lines gate o.file → IsStaged Done lines gate group o m) × Syncs Done m s)
    (λ o m s staged syncs. (m, staged, syncs)) (c.in-Done.ensures.told lines) c.in-Done-sync.ensures.told)
    c.write_down.ensures.told

pub returns-in-Failed-sync-clause-told : goal.returns-in-Failed-sync-clause-told
returns-in-Failed-sync-clause-told g c lines =
    let group = g.G.Group.lines c.args.group.now in
    let gate = c.args.gate in
    told_both _ _ _ (λ o m. IsIdle lines gate o.file → IsStaged Done lines gate group o m) (Syncs Failed)
    (λ o n. IsIdle lines gate o.file → AppendsAt Failed lines gate group o n)
    (λ o m n staged syncs idle. unsynced lines group gate o m n (staged idle) syncs) (c.in-Done.ensures.told lines)
    c.in-Failed-sync.ensures.told

pub returns-in-Failed-clause-told : goal.returns-in-Failed-clause-told
returns-in-Failed-clause-told g c lines =
    let group = g.G.Group.lines c.args.group.now in
    let gate = c.args.gate in
    told_so _ _ (λ o n. IsIdle lines gate o.file → IsStaged Failed lines gate group o n)
    (λ o n. IsIdle lines gate o.file → AppendsAt Failed lines gate group o n)
    (λ o n staged idle. leaves_so (FileOpensTo lines) (IsBeforeOrAfter lines group) o n (λ image opens. inl opens)
    (staged idle)) (c.in-Failed.ensures.told lines)

-- Each call goes on by moments.
pub returns-in-Done-sync-clause-moments : goal.returns-in-Done-sync-clause-moments
returns-in-Done-sync-clause-moments g c =
    let did = c.write_down.result in
    told_both _ _ _ (λ o s. (m : History) × HasPassed o m × Syncs Done m s) (WritesDown did c.args.gate (1 ∷ [])) HasPassed
    (λ o s n gone writes. goes_both o gone.0 n gone.1 (goes_down did c.args.gate (1 ∷ []) gone.0 s n gone.2 writes))
    (told_both _ _ _ HasPassed (Syncs Done) (λ o s. (m : History) × HasPassed o m × Syncs Done m s)
    (λ o m s gone syncs. (m, gone, syncs)) c.in-Done.ensures.moments c.in-Done-sync.ensures.told)
    c.write_down.ensures.told

pub returns-in-Failed-sync-clause-moments : goal.returns-in-Failed-sync-clause-moments
returns-in-Failed-sync-clause-moments g c =
    told_both _ _ _ HasPassed (Syncs Failed) HasPassed
    (λ o m n gone syncs. goes_both o m n gone (goes_sync Failed m n syncs))
    c.in-Done.ensures.moments c.in-Failed-sync.ensures.told
