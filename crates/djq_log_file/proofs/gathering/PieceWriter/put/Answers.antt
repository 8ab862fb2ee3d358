-- The piece is gathered, behind what was gathered or once that is written.
use Rattle.std.proofs.Common.{[], refl, ap}
use Rattle.djq_disk.specs.declared.disk.DiskDid.TheVariants.{Done, Failed}
use Rattle.djq_disk.proofs.Files.{told_so}
use Rattle.djq_log_file.specs.Laying.{Gathering, LaysMore}
use Rattle.djq_log_file.proofs.Laid.{lays_gathered, lays_both, lays_failed}
use Rattle.djq_log_file.proofs.gathering.PieceWriter.put.Goals as goal

pub returns-in-Done-clause-told : goal.returns-in-Done-clause-told
returns-in-Done-clause-told g c =
    let piece = c.args.piece.now in
    let a = c.args.self.now in
    let b = c.flush.new.self in
    let d = c.gather-in-Done.new.self in
    told_so _ _ (LaysMore Done [] a b) (LaysMore Done piece a d)
    (λ o n p. lays_both Done [] piece piece a b d o n n refl p
    (lays_gathered piece b d n (ap (λ (w : Gathering). w.at) c.gather-in-Done.ensures)
    (ap (λ (w : Gathering). w.gathered) c.gather-in-Done.ensures)))
    c.in-Done.ensures.told

pub returns-in-Failed-clause-told : goal.returns-in-Failed-clause-told
returns-in-Failed-clause-told g c =
    let piece = c.args.piece.now in
    let a = c.args.self.now in
    let b = c.flush.new.self in
    told_so _ _ (LaysMore Failed [] a b) (LaysMore Failed piece a b)
    (λ o n p. lays_failed [] piece a b b o n p) c.in-Failed.ensures.told
