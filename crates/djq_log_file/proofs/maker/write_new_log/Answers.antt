-- Where the next file wasn't begun it is as it was.
use Rattle.djq_disk.specs.History.{BeginsNext}
use Rattle.djq_disk.specs.declared.disk.DiskDid.TheVariants.{Failed}
use Rattle.djq_disk.proofs.Files.{told_so}
use Rattle.djq_log_file.specs.Making.{WritesNewLog}
use Rattle.djq_log_file.proofs.Makes.{new_log_unbegun}
use Rattle.djq_log_file.proofs.maker.write_new_log.Goals as goal

pub returns-in-Failed-clause-told : goal.returns-in-Failed-clause-told
returns-in-Failed-clause-told g c =
    told_so _ _ (BeginsNext Failed) (WritesNewLog Failed) (λ o n begins. new_log_unbegun o n begins)
    c.in-Failed.ensures.told
