-- What was laid is written, all of it.
use Rattle.std.proofs.Common.{◌+◌, ℕ, List, [], ◌∷◌, ◌++◌, ap}
use Rattle.djq_disk.specs.declared.disk.DiskDid.TheVariants.{Done, Failed}
use Rattle.djq_disk.proofs.Files.{told_so, told_both}
use Rattle.djq_log_format.specs.Format.{content_of}
use Rattle.djq_log_file.specs.Laying.{Gathering, LaysMore, WritesFrom}
use Rattle.djq_log_file.proofs.Laid.{lays_not_all, lays_written}
use Rattle.djq_log_file.proofs.appending.write_content.Goals as goal

pub returns-in-Done-clause-told : goal.returns-in-Done-clause-told
returns-in-Done-clause-told g c digest is =
    let content : List ℕ = content_of digest (g.G.Group.lines c.args.group.now) ++ 0 ∷ [] in
    let start = c.args.gate + 1 in
    let did = c.flush.result in
    let a = c.new-writer.result in
    let b = c.put_content.new.writer in
    let d = c.flush.new.self in
    told_both _ _ _ (LaysMore Done content a b) (LaysMore did [] b d) (WritesFrom did start content)
    (λ o m n p q. lays_written did start content a b d o m n (ap (λ (w : Gathering). w.at) c.new-writer.ensures)
    (ap (λ (w : Gathering). w.gathered) c.new-writer.ensures) c.flush.ensures.none p q)
    (c.in-Done.ensures.told digest is) c.flush.ensures.told

pub returns-in-Failed-clause-told : goal.returns-in-Failed-clause-told
returns-in-Failed-clause-told g c digest is =
    let content : List ℕ = content_of digest (g.G.Group.lines c.args.group.now) ++ 0 ∷ [] in
    let start = c.args.gate + 1 in
    let a = c.new-writer.result in
    let b = c.put_content.new.writer in
    told_so _ _ (LaysMore Failed content a b) (WritesFrom Failed start content)
    (λ o n p. lays_not_all start content content a b o n (ap (λ (w : Gathering). w.at) c.new-writer.ensures)
    (ap (λ (w : Gathering). w.gathered) c.new-writer.ensures) p)
    (c.in-Failed.ensures.told digest is)
