-- The head, the body and the closed gate are laid one behind another.
use Rattle.std.proofs.Common.{ℕ, List, [], ◌∷◌, ◌++◌, refl}
use Rattle.djq_disk.specs.declared.disk.DiskDid.TheVariants.{Done, Failed}
use Rattle.djq_disk.proofs.Files.{told_so, told_both}
use Rattle.djq_log_format.specs.Format.{record_head, record_body, content_of}
use Rattle.djq_log_file.specs.Laying.{LaysMore}
use Rattle.djq_log_file.proofs.Laid.{lays_both, lays_failed}
use Rattle.djq_log_file.proofs.appending.put_content.Goals as goal

pub returns-in-Failed-clause-told : goal.returns-in-Failed-clause-told
returns-in-Failed-clause-told g c digest is =
    let lines = g.G.Group.lines c.args.group.now in
    let head = record_head digest (record_body lines) in
    let content : List ℕ = content_of digest lines ++ 0 ∷ [] in
    let a = c.args.writer.now in
    let b = c.put_head.new.writer in
    told_so _ _ (LaysMore Failed head a b) (LaysMore Failed content a b)
    (λ o n p. lays_failed head content a b b o n p) (c.in-Failed.ensures.told digest lines is)

pub returns-in-Failed-put_lines-clause-told : goal.returns-in-Failed-put_lines-clause-told
returns-in-Failed-put_lines-clause-told g c digest is =
    let lines = g.G.Group.lines c.args.group.now in
    let body = record_body lines in
    let head = record_head digest body in
    let content : List ℕ = content_of digest lines ++ 0 ∷ [] in
    let a = c.args.writer.now in
    let b = c.put_head.new.writer in
    let d = c.put_lines.new.writer in
    told_both _ _ _ (LaysMore Done head a b) (LaysMore Failed body b d) (LaysMore Failed content a d)
    (λ o m n p q. lays_failed (head ++ body) content a d d o n
    (lays_both Failed head body (head ++ body) a b d o m n refl p q))
    (c.in-Done.ensures.told digest lines is) c.in-Failed-put_lines.ensures.told

pub returns-in-Done-put_lines-clause-told : goal.returns-in-Done-put_lines-clause-told
returns-in-Done-put_lines-clause-told g c digest is =
    let lines = g.G.Group.lines c.args.group.now in
    let body = record_body lines in
    let head = record_head digest body in
    let content : List ℕ = content_of digest lines ++ 0 ∷ [] in
    let did = c.put.result in
    let a = c.args.writer.now in
    let b = c.put_head.new.writer in
    let d = c.put_lines.new.writer in
    let e = c.put.new.self in
    told_both _ _ _ (LaysMore Done (head ++ body) a d) (LaysMore did (0 ∷ []) d e) (LaysMore did content a e)
    (λ o m n p q. lays_both did (head ++ body) (0 ∷ []) content a d e o m n refl p q)
    (told_both _ _ _ (LaysMore Done head a b) (LaysMore Done body b d) (LaysMore Done (head ++ body) a d)
    (λ o m n p q. lays_both Done head body (head ++ body) a b d o m n refl p q)
    (c.in-Done.ensures.told digest lines is) c.in-Done-put_lines.ensures.told)
    c.put.ensures.told
