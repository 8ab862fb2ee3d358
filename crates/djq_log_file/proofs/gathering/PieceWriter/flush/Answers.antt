-- What is gathered is written where it is to be, and nothing is gathered then.
use Rattle.std.proofs.Common.{◌≡◌, ◌+◌, [], length, take, refl, ap, subst, arith, length-take}
use Rattle.djq_disk.specs.History.{WhereHistoryTold, DiskWrites}
use Rattle.djq_disk.specs.declared.disk.DiskDid.TheVariants.{Done, Failed}
use Rattle.djq_disk.proofs.Files.{told_so}
use Rattle.djq_log_file.specs.Laying.{Gathering, LaysMore, end_of_gathering}
use Rattle.djq_log_file.proofs.Laid.{as_gathering, lays_flushed, lays_unwritten}
use Rattle.djq_log_file.proofs.gathering.PieceWriter.flush.Goals as goal

pub write_at-requires-clause-place : goal.write_at-requires-clause-place
write_at-requires-clause-place g c =
    omega (arith, ap (λ (w : Gathering). end_of_gathering w) c.self.view_is, c.requires.place)

pub returns-in-Done-clause-told : goal.returns-in-Done-clause-told
returns-in-Done-clause-told g c =
    let at = c.self.inside.at in
    let gathered = take c.self.inside.filled c.self.inside.buf in
    let long : length gathered ≡ c.self.inside.filled = omega
    (arith, length-take c.self.inside.filled c.self.inside.buf, c.self.invariant.0, c.self.invariant.1) in
    let b = as_gathering (at + c.self.inside.filled) [] in
    subst (λ (w : Gathering). WhereHistoryTold (g.D.Disk.told c.args.disk.now) (g.D.Disk.told c.write_at.new.self)
    (LaysMore Done [] w b)) c.self.view_is
    (told_so _ _ (DiskWrites Done at gathered) (LaysMore Done [] (as_gathering at gathered) b)
    (λ o n writes. lays_flushed (as_gathering at gathered) b o n writes (omega (arith, long)) refl)
    c.in-Done.ensures.told)

pub returns-in-Failed-clause-told : goal.returns-in-Failed-clause-told
returns-in-Failed-clause-told g c =
    let at = c.self.inside.at in
    let gathered = take c.self.inside.filled c.self.inside.buf in
    let a = as_gathering at gathered in
    subst (λ (w : Gathering). WhereHistoryTold (g.D.Disk.told c.args.disk.now) (g.D.Disk.told c.write_at.new.self)
    (LaysMore Failed [] w c.args.self.now)) c.self.view_is
    (told_so _ _ (DiskWrites Failed at gathered) (LaysMore Failed [] a c.args.self.now)
    (λ o n writes. lays_unwritten [] a c.args.self.now o n writes)
    c.in-Failed.ensures.told)

pub returns-in-Done-clause-end : goal.returns-in-Done-clause-end
returns-in-Done-clause-end g c =
    let long = length-take c.self.inside.filled c.self.inside.buf in
    omega (arith, long, c.self.invariant.0, c.self.invariant.1, ap (λ (w : Gathering). end_of_gathering w) c.self.view_is)
