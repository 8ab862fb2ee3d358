-- What was laid is written, all of it.
use Rattle.std.proofs.Common.{ℕ, List, [], ◌∷◌, ap}
use Rattle.djq_disk.specs.declared.disk.DiskDid.TheVariants.{Done, Failed}
use Rattle.djq_disk.proofs.Files.{told_so, told_both}
use Rattle.djq_log_format.specs.Format.{content_of}
use Rattle.djq_log_file.specs.Laying.{Gathering, LaysMore}
use Rattle.djq_log_file.specs.Making.{WritesBehind}
use Rattle.djq_log_file.proofs.Makes.{behind_written, behind_unwritten}
use Rattle.djq_log_file.proofs.maker.write_record.Goals as goal

pub returns-in-Done-clause-told : goal.returns-in-Done-clause-told
returns-in-Done-clause-told g c digest is =
    let bytes : List ℕ = 255 ∷ content_of digest (g.G.Group.lines c.args.group.now) in
    let start = c.args.at in
    let did = c.flush.result in
    let a = c.new-writer.result in
    let b = c.put_record.new.writer in
    let d = c.flush.new.self in
    told_both _ _ _ (LaysMore Done bytes a b) (LaysMore did [] b d) (WritesBehind did start bytes)
    (λ o m n p q. behind_written did start bytes a b d o m n (ap (λ (w : Gathering). w.at) c.new-writer.ensures)
    (ap (λ (w : Gathering). w.gathered) c.new-writer.ensures) c.flush.ensures.none p q)
    (c.in-Done.ensures.told digest is) c.flush.ensures.told

pub returns-in-Failed-clause-told : goal.returns-in-Failed-clause-told
returns-in-Failed-clause-told g c digest is =
    let bytes : List ℕ = 255 ∷ content_of digest (g.G.Group.lines c.args.group.now) in
    let start = c.args.at in
    let a = c.new-writer.result in
    let b = c.put_record.new.writer in
    told_so _ _ (LaysMore Failed bytes a b) (WritesBehind Failed start bytes)
    (λ o n p. behind_unwritten start bytes a b o n p) (c.in-Failed.ensures.told digest is)
