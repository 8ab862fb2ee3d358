-- The log had the end that was taken, and the group has a first line: it is appended after whatever was kept.
use Rattle.std.proofs.Common.{rules, ◌≡◌, ℕ, List, [], sym, subst}
use Rattle.std.specs.Prelude.{Option, Some}
use Rattle.djq_disk.specs.History.{WhereHistoryTold}
use Rattle.djq_disk.proofs.Files.{told_so}
use Rattle.djq_journal.specs.Standing.{IsIdle}
use Rattle.djq_journal.specs.Appending.{Appends}
use Rattle.djq_journal.specs.declared.journal.Appended.TheVariants.{Done, Failed as Unappended, Full as Overflows}
use Rattle.djq_log_file.specs.Appending.{AppendsAfter}
use Rattle.djq_log_file.specs.declared.writer.LogAppended.TheVariants.{Done as Did, Failed as Failing}
use Rattle.djq_log_file.specs.declared.writer.LogAppended.TheVariants.{Full as Overflowing}
use Rattle.djq_log.specs.Logging.{Keeps, FullChangesNothing}
use Rattle.djq_log.specs.declared.end.LogEnd.{LogEnd}
use Rattle.djq_log.specs.declared.end.LogEnd.TheVariants.{First, Second}
use Rattle.djq_log.specs.declared.log.Kept.TheVariants.{All, Failed, Full}
use Rattle.djq_log.proofs.Appends.{told_all, with_lines, first_all, first_failed, first_full}
use Rattle.djq_log.proofs.Appends.{first_unchanged, second_all, second_failed, second_full, second_unchanged}
use Rattle.djq_log.proofs.log.Log.keep.Goals as goal

-- A log of the first format.
pub returns-in-Done-clause-told : goal.returns-in-Done-clause-told
returns-in-Done-clause-told g c =
    let told = g.D.Disk.told in
    let group = g.G.Group.lines c.args.group.now in
    let gate = c.in-Some-First.journal in
    let next = c.in-Done.next in
    let is : c.args.self.now ≡ Some (First gate) = search rules in
    subst (λ (at : Option LogEnd). WhereHistoryTold (told c.args.disk.now) (told c.append_all.new.disk)
    (Keeps All at (Some (First next)) group)) (sym is)
    (told_so _ _ (λ o n. (lines : List (List ℕ)) → IsIdle lines gate o.file → Appends (Done next) lines group o n)
    (Keeps All (Some (First gate)) (Some (First next)) group)
    (λ o n appends. first_all gate next group o n (with_lines group c.in-Some._first.now c.in-Some.ensures) appends)
    (told_all [] _ _ (λ lines o n. IsIdle lines gate o.file → Appends (Done next) lines group o n)
    c.in-Done.ensures.told))

pub returns-in-Failed-clause-told : goal.returns-in-Failed-clause-told
returns-in-Failed-clause-told g c =
    let told = g.D.Disk.told in
    let group = g.G.Group.lines c.args.group.now in
    let gate = c.in-Some-First.journal in
    let is : c.args.self.now ≡ Some (First gate) = search rules in
    subst (λ (at : Option LogEnd). WhereHistoryTold (told c.args.disk.now) (told c.append_all.new.disk)
    (Keeps Failed at c.take.new.self group)) (sym is)
    (told_so _ _ (λ o n. (lines : List (List ℕ)) → IsIdle lines gate o.file → Appends Unappended lines group o n)
    (Keeps Failed (Some (First gate)) c.take.new.self group)
    (first_failed gate c.take.new.self group)
    (told_all [] _ _ (λ lines o n. IsIdle lines gate o.file → Appends Unappended lines group o n)
    c.in-Failed.ensures.told))

pub returns-in-Full-clause-told : goal.returns-in-Full-clause-told
returns-in-Full-clause-told g c =
    let told = g.D.Disk.told in
    let group = g.G.Group.lines c.args.group.now in
    let gate = c.in-Some-First.journal in
    let is : c.args.self.now ≡ Some (First gate) = search rules in
    subst (λ (at : Option LogEnd). WhereHistoryTold (told c.args.disk.now) (told c.append_all.new.disk)
    (Keeps Full at c.take.new.self group)) (sym is)
    (told_so _ _ (λ o n. (lines : List (List ℕ)) → IsIdle lines gate o.file → Appends Overflows lines group o n)
    (Keeps Full (Some (First gate)) c.take.new.self group)
    (first_full gate c.take.new.self group)
    (told_all [] _ _ (λ lines o n. IsIdle lines gate o.file → Appends Overflows lines group o n)
    c.in-Full.ensures.told))

-- One of the second.
pub returns-in-Done-append-clause-told : goal.returns-in-Done-append-clause-told
returns-in-Done-append-clause-told g c =
    let told = g.D.Disk.told in
    let group = g.G.Group.lines c.args.group.now in
    let place = c.in-Some-Second.writer in
    let next = c.in-Done-append.next in
    let is : c.args.self.now ≡ Some (Second place) = search rules in
    subst (λ (at : Option LogEnd). WhereHistoryTold (told c.args.disk.now) (told c.append.new.disk)
    (Keeps All at (Some (Second next)) group)) (sym is)
    (told_so _ _ (AppendsAfter (Did next) place group) (Keeps All (Some (Second place)) (Some (Second next)) group)
    (λ o n appends. second_all place next group o n (with_lines group c.in-Some._first.now c.in-Some.ensures) appends)
    c.in-Done-append.ensures.told)

pub returns-in-Failed-append-clause-told : goal.returns-in-Failed-append-clause-told
returns-in-Failed-append-clause-told g c =
    let told = g.D.Disk.told in
    let group = g.G.Group.lines c.args.group.now in
    let place = c.in-Some-Second.writer in
    let is : c.args.self.now ≡ Some (Second place) = search rules in
    subst (λ (at : Option LogEnd). WhereHistoryTold (told c.args.disk.now) (told c.append.new.disk)
    (Keeps Failed at c.take.new.self group)) (sym is)
    (told_so _ _ (AppendsAfter Failing place group) (Keeps Failed (Some (Second place)) c.take.new.self group)
    (second_failed place c.take.new.self group) c.in-Failed-append.ensures.told)

pub returns-in-Full-append-clause-told : goal.returns-in-Full-append-clause-told
returns-in-Full-append-clause-told g c =
    let told = g.D.Disk.told in
    let group = g.G.Group.lines c.args.group.now in
    let place = c.in-Some-Second.writer in
    let is : c.args.self.now ≡ Some (Second place) = search rules in
    subst (λ (at : Option LogEnd). WhereHistoryTold (told c.args.disk.now) (told c.append.new.disk)
    (Keeps Full at c.take.new.self group)) (sym is)
    (told_so _ _ (AppendsAfter Overflowing place group) (Keeps Full (Some (Second place)) c.take.new.self group)
    (second_full place c.take.new.self group) c.in-Full-append.ensures.told)

-- Without room nothing changes.
pub returns-in-Full-clause-full : goal.returns-in-Full-clause-full
returns-in-Full-clause-full g c = λ full.
    let told = g.D.Disk.told in
    let group = g.G.Group.lines c.args.group.now in
    let gate = c.in-Some-First.journal in
    let is : c.args.self.now ≡ Some (First gate) = search rules in
    subst (λ (at : Option LogEnd). WhereHistoryTold (told c.args.disk.now) (told c.append_all.new.disk)
    (FullChangesNothing at)) (sym is)
    (told_so _ _ (λ o n. (lines : List (List ℕ)) → IsIdle lines gate o.file → Appends Overflows lines group o n)
    (FullChangesNothing (Some (First gate))) (first_unchanged gate group)
    (told_all [] _ _ (λ lines o n. IsIdle lines gate o.file → Appends Overflows lines group o n)
    c.in-Full.ensures.told))

pub returns-in-Full-append-clause-full : goal.returns-in-Full-append-clause-full
returns-in-Full-append-clause-full g c = λ full.
    let told = g.D.Disk.told in
    let group = g.G.Group.lines c.args.group.now in
    let place = c.in-Some-Second.writer in
    let is : c.args.self.now ≡ Some (Second place) = search rules in
    subst (λ (at : Option LogEnd). WhereHistoryTold (told c.args.disk.now) (told c.append.new.disk)
    (FullChangesNothing at)) (sym is)
    (told_so _ _ (AppendsAfter Overflowing place group) (FullChangesNothing (Some (Second place)))
    (second_unchanged place group) c.in-Full-append.ensures.told)
