-- The end of the log is behind the group that was measured.
use Rattle.std.proofs.Common.{ap, ◌∙◌, arith}
use Rattle.djq_disk.specs.declared.disk.DiskDid.TheVariants.{Done as Did, Failed as Failing}
use Rattle.djq_disk.proofs.Files.{told_none, told_so}
use Rattle.djq_log_file.specs.Places.{LogEndPlace}
use Rattle.djq_log_file.specs.Appending.{AppendsHere, AppendsAfter, end_behind}
use Rattle.djq_log_file.specs.declared.writer.LogAppended.TheVariants.{Done, Failed, Full}
use Rattle.djq_log_file.proofs.Ends.{ends_at, appended_done, appended_failed, appended_not, end_same}
use Rattle.djq_log_file.proofs.writer.LogWriter.append.Goals as goal

pub returns-in-None-clause-told : goal.returns-in-None-clause-told
returns-in-None-clause-told g c =
    told_none (g.D.Disk.told c.args.disk.now) (AppendsAfter Full c.args.self (g.G.Group.lines c.args.group.now))
    (λ o. appended_not c.args.self (g.G.Group.lines c.args.group.now) o)

pub returns-in-Done-clause-told : goal.returns-in-Done-clause-told
returns-in-Done-clause-told g c =
    let group = g.G.Group.lines c.args.group.now in
    let next = c.new.result in
    let is = c.in-Some.ensures.some in
    told_so _ _ (AppendsHere Did (ends_at c.self.inside.at c.self.inside.digest) group) (AppendsAfter (Done next) c.args.self group)
    (λ o n appends. appended_done next (ends_at c.self.inside.at c.self.inside.digest) c.args.self group o n c.self.view_is
    (c.new.ensures
    ∙ end_same c.self.inside.at c.self.inside.digest c.in-Some.end c.digest.result group is.0
    (c.digest.ensures c.self.inside.digest group is.2)) appends)
    c.in-Done.ensures.told

pub returns-in-Failed-clause-told : goal.returns-in-Failed-clause-told
returns-in-Failed-clause-told g c =
    let group = g.G.Group.lines c.args.group.now in
    told_so _ _ (AppendsHere Failing (ends_at c.self.inside.at c.self.inside.digest) group) (AppendsAfter Failed c.args.self group)
    (λ o n appends. appended_failed (ends_at c.self.inside.at c.self.inside.digest) c.args.self group o n c.self.view_is appends)
    c.in-Failed.ensures.told

pub returns-in-Done-clause-room : goal.returns-in-Done-clause-room
returns-in-Done-clause-room g c =
    let group = g.G.Group.lines c.args.group.now in
    let is = c.in-Some.ensures.some in (
      c.new.ensures
          ∙ end_same c.self.inside.at c.self.inside.digest c.in-Some.end c.digest.result group is.0
          (c.digest.ensures c.self.inside.digest group is.2)
          ∙ ap (λ (place : LogEndPlace). end_behind place group) c.self.view_is,
      omega (arith, is.1, ap (λ (place : LogEndPlace). place.at) c.new.ensures),
    )

pub returns-in-Failed-clause-room : goal.returns-in-Failed-clause-room
returns-in-Failed-clause-room g c =
    let is = c.in-Some.ensures.some in
    omega (arith, is.0, is.1, ap (λ (place : LogEndPlace). place.at) c.self.view_is)

pub returns-in-None-clause-room : goal.returns-in-None-clause-room
returns-in-None-clause-room g c =
    omega (arith, c.in-None.ensures.none, ap (λ (place : LogEndPlace). place.at) c.self.view_is)
