-- The open gate, the head and the body are laid one behind another.
use Rattle.std.proofs.Common.{ℕ, List, [], ◌∷◌, refl}
use Rattle.djq_disk.specs.declared.disk.DiskDid.TheVariants.{Done, Failed}
use Rattle.djq_disk.proofs.Files.{told_so, told_both}
use Rattle.djq_log_format.specs.Format.{record_head, record_body, content_of}
use Rattle.djq_log_file.specs.Laying.{LaysMore}
use Rattle.djq_log_file.proofs.Laid.{lays_both, lays_failed}
use Rattle.djq_log_file.proofs.maker.put_record.Goals as goal

pub returns-in-Failed-clause-told : goal.returns-in-Failed-clause-told
returns-in-Failed-clause-told g c digest is =
    let all : List ℕ = 255 ∷ content_of digest (g.G.Group.lines c.args.group.now) in
    let a = c.args.writer.now in
    let b = c.put.new.self in
    told_so _ _ (LaysMore Failed (255 ∷ []) a b) (LaysMore Failed all a b)
    (λ o n p. lays_failed (255 ∷ []) all a b b o n p) c.in-Failed.ensures.told

pub returns-in-Failed-put_head-clause-told : goal.returns-in-Failed-put_head-clause-told
returns-in-Failed-put_head-clause-told g c digest is =
    let lines = g.G.Group.lines c.args.group.now in
    let head = record_head digest (record_body lines) in
    let all : List ℕ = 255 ∷ content_of digest lines in
    let a = c.args.writer.now in
    let b = c.put.new.self in
    let d = c.put_head.new.writer in
    told_both _ _ _ (LaysMore Done (255 ∷ []) a b) (LaysMore Failed head b d) (LaysMore Failed all a d)
    (λ o m n p q. lays_failed (255 ∷ head) all a d d o n
    (lays_both Failed (255 ∷ []) head (255 ∷ head) a b d o m n refl p q))
    c.in-Done.ensures.told (c.in-Failed-put_head.ensures.told digest lines is)

pub returns-in-Done-put_head-clause-told : goal.returns-in-Done-put_head-clause-told
returns-in-Done-put_head-clause-told g c digest is =
    let lines = g.G.Group.lines c.args.group.now in
    let body = record_body lines in
    let head = record_head digest body in
    let all : List ℕ = 255 ∷ content_of digest lines in
    let did = c.put_lines.result in
    let a = c.args.writer.now in
    let b = c.put.new.self in
    let d = c.put_head.new.writer in
    let e = c.put_lines.new.writer in
    told_both _ _ _ (LaysMore Done (255 ∷ head) a d) (LaysMore did body d e) (LaysMore did all a e)
    (λ o m n p q. lays_both did (255 ∷ head) body all a d e o m n refl p q)
    (told_both _ _ _ (LaysMore Done (255 ∷ []) a b) (LaysMore Done head b d) (LaysMore Done (255 ∷ head) a d)
    (λ o m n p q. lays_both Done (255 ∷ []) head (255 ∷ head) a b d o m n refl p q)
    c.in-Done.ensures.told (c.in-Done-put_head.ensures.told digest lines is))
    c.put_lines.ensures.told
