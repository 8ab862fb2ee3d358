-- The next file is a log without groups, and takes the place of the file, or nobody knows whether it did.
use Rattle.djq_disk.specs.History.{Replaces}
use Rattle.djq_disk.specs.declared.disk.DiskDid.TheVariants.{Done, Failed}
use Rattle.djq_disk.proofs.Files.{told_so, told_both}
use Rattle.djq_log_file.specs.Making.{WritesNewLog, CreatesLog}
use Rattle.djq_log_file.specs.declared.maker.LogMade.TheVariants.{Made, Failed as Unmade}
use Rattle.djq_log_file.proofs.Makes.{created, not_replaced, stays}
use Rattle.djq_log_file.proofs.maker.create_log.Goals as goal

pub returns-in-Done-replace-clause-told : goal.returns-in-Done-replace-clause-told
returns-in-Done-replace-clause-told g c =
    let end = c.new.result in
    told_both _ _ _ (WritesNewLog Done) (Replaces Done) (CreatesLog (Made end))
    (λ o m n writes replaces. created end o m n c.new.ensures writes replaces)
    c.in-Done.ensures.told c.in-Done-replace.ensures.told

pub returns-in-Failed-replace-clause-told : goal.returns-in-Failed-replace-clause-told
returns-in-Failed-replace-clause-told g c =
    told_both _ _ _ (WritesNewLog Done) (Replaces Failed) (CreatesLog Unmade)
    (λ o m n writes replaces. not_replaced o m n writes replaces)
    c.in-Done.ensures.told c.in-Failed-replace.ensures.told

pub returns-in-Failed-clause-told : goal.returns-in-Failed-clause-told
returns-in-Failed-clause-told g c =
    told_so _ _ (WritesNewLog Failed) (CreatesLog Unmade) (λ o n writes. stays o writes.0 n writes.1)
    c.in-Failed.ensures.told
