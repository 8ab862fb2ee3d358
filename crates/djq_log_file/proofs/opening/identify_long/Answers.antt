-- The first eight bytes are a header, and there are more.
use Rattle.std.proofs.Common.{◌<◌, length, sym, subst}
use Rattle.std.proofs.lemmas.Slice.Eq.{bytes_eq-Decides}
use Rattle.djq_disk.specs.Filling.{FillsBuffer}
use Rattle.djq_disk.specs.declared.filling.Filled.TheVariants.{Whole}
use Rattle.djq_disk.proofs.Files.{told_so}
use Rattle.djq_log_format.specs.Format.{log_header}
use Rattle.djq_log_file.specs.Places.{ReadingPlace}
use Rattle.djq_log_file.specs.Opening.{Identifies, first_log_header}
use Rattle.djq_log_file.specs.declared.opening.LogOpened.TheVariants.{First, Second}
use Rattle.djq_log_file.proofs.Opens.{long_second, long_first}
use Rattle.djq_log_file.proofs.opening.identify_long.Goals as goal

pub returns-then-eq-clause-told : goal.returns-then-eq-clause-told
returns-then-eq-clause-told g c =
    let buf = c.fill.new.buf in
    told_so _ _ (FillsBuffer Whole 0 buf) (λ o n. 8 < length o.file.bytes → Identifies (Second c.first.result) o n)
    (λ o n fills long. subst (λ (place : ReadingPlace). Identifies (Second place) o n) (sym c.first.ensures)
    (long_second buf o n long c.fill.auto.buf ((bytes_eq-Decides buf log_header).0 (sym c.if-eq.ensures)) fills))
    c.in-Whole.ensures.told

pub returns-then-eq-2-clause-told : goal.returns-then-eq-2-clause-told
returns-then-eq-2-clause-told g c =
    let buf = c.fill.new.buf in
    told_so _ _ (FillsBuffer Whole 0 buf) (λ o n. 8 < length o.file.bytes → Identifies First o n)
    (λ o n fills long. long_first buf o n long c.fill.auto.buf
    ((bytes_eq-Decides buf first_log_header).0 (sym c.if-eq-2.ensures)) fills)
    c.in-Whole.ensures.told
