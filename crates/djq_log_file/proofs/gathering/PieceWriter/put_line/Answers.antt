-- The length is laid, and the line behind it.
use Rattle.std.proofs.Common.{◌/◌, ◌%◌, ℕ, List, [], ◌∷◌, length, refl}
use Rattle.djq_disk.specs.declared.disk.DiskDid.TheVariants.{Done, Failed}
use Rattle.djq_disk.proofs.Files.{told_so, told_both}
use Rattle.djq_log_format.specs.Format.{line_entry}
use Rattle.djq_log_file.specs.Laying.{LaysMore}
use Rattle.djq_log_file.proofs.Laid.{lays_both, lays_failed}
use Rattle.djq_log_file.proofs.gathering.PieceWriter.put_line.Goals as goal

pub returns-in-Done-clause-told : goal.returns-in-Done-clause-told
returns-in-Done-clause-told g c =
    let line = c.args.line.now in
    let size : List ℕ = length line / 256 ∷ length line % 256 ∷ [] in
    let did = c.put-in-Done.result in
    let a = c.args.self.now in
    let b = c.put.new.self in
    let d = c.put-in-Done.new.self in
    told_both _ _ _ (LaysMore Done size a b) (LaysMore did line b d) (LaysMore did (line_entry line) a d)
    (λ o m n p q. lays_both did size line (line_entry line) a b d o m n refl p q)
    c.in-Done.ensures.told c.put-in-Done.ensures.told

pub returns-in-Failed-clause-told : goal.returns-in-Failed-clause-told
returns-in-Failed-clause-told g c =
    let line = c.args.line.now in
    let size : List ℕ = length line / 256 ∷ length line % 256 ∷ [] in
    let a = c.args.self.now in
    let b = c.put.new.self in
    told_so _ _ (LaysMore Failed size a b) (LaysMore Failed (line_entry line) a b)
    (λ o n p. lays_failed size (line_entry line) a b b o n p) c.in-Failed.ensures.told
