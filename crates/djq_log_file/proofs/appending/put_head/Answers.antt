-- The length and the digest are laid one behind the other.
use Rattle.std.proofs.Common.{ℕ, List, ◌++◌, ap₂}
use Rattle.djq_disk.specs.declared.disk.DiskDid.TheVariants.{Done, Failed}
use Rattle.djq_disk.proofs.Files.{told_so, told_both}
use Rattle.djq_log_format.specs.Format.{record_head, record_body}
use Rattle.djq_log_file.specs.Laying.{LaysMore}
use Rattle.djq_log_file.proofs.Laid.{lays_both, lays_failed}
use Rattle.djq_log_file.proofs.appending.put_head.Goals as goal

pub returns-in-Done-clause-told : goal.returns-in-Done-clause-told
returns-in-Done-clause-told g c digest lines is =
    let one = c.encode_length.new.buf in
    let two = c.encode_digest.new.buf in
    let did = c.put-in-Done.result in
    let head = record_head digest (record_body lines) in
    let a = c.args.writer.now in
    let b = c.put.new.self in
    let d = c.put-in-Done.new.self in
    told_both _ _ _ (LaysMore Done one a b) (LaysMore did two b d) (LaysMore did head a d)
    (λ o m n p q. lays_both did one two head a b d o m n
    (ap₂ (λ (xs ys : List ℕ). xs ++ ys) (c.encode_length.ensures digest lines is) (c.encode_digest.ensures digest lines is))
    p q)
    c.in-Done.ensures.told c.put-in-Done.ensures.told

pub returns-in-Failed-clause-told : goal.returns-in-Failed-clause-told
returns-in-Failed-clause-told g c digest lines is =
    let one = c.encode_length.new.buf in
    let head = record_head digest (record_body lines) in
    let a = c.args.writer.now in
    let b = c.put.new.self in
    told_so _ _ (LaysMore Failed one a b) (LaysMore Failed head a b)
    (λ o n p. lays_failed one head a b b o n p) c.in-Failed.ensures.told
