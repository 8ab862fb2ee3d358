-- The header is what precedes the first record.
use Rattle.djq_disk.specs.History.{DiskWrites}
use Rattle.djq_disk.specs.declared.disk.DiskDid.TheVariants.{Done, Failed}
use Rattle.djq_disk.proofs.Files.{told_so}
use Rattle.djq_log_format.specs.Format.{log_header}
use Rattle.djq_log_file.specs.Making.{BeginsLog}
use Rattle.djq_log_file.specs.declared.maker.LogBegun.TheVariants.{Begun, Failed as Unbegun}
use Rattle.djq_log_file.proofs.Parts.{gone_write}
use Rattle.djq_log_file.proofs.Makes.{begun}
use Rattle.djq_log_file.proofs.maker.LogMaker.begin.Goals as goal

pub returns-in-Done-clause-told : goal.returns-in-Done-clause-told
returns-in-Done-clause-told g c =
    told_so _ _ (DiskWrites Done 0 log_header) (BeginsLog (Begun c.new.result))
    (λ o n writes. begun c.new.result o n c.new.ensures writes) c.in-Done.ensures.told

pub returns-in-Failed-clause-told : goal.returns-in-Failed-clause-told
returns-in-Failed-clause-told g c =
    told_so _ _ (DiskWrites Failed 0 log_header) (BeginsLog Unbegun)
    (λ o n writes. gone_write Failed 0 log_header o n writes) c.in-Failed.ensures.told
