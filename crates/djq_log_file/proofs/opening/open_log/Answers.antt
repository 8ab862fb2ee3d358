-- The file is as it was after the sync, and what it is was told of its length.
use Rattle.std.proofs.Common.{◌≡◌, ◌<◌, length}
use Rattle.djq_disk.specs.History.{History, Syncs, Sizes}
use Rattle.djq_disk.specs.declared.disk.DiskDid.TheVariants.{Done}
use Rattle.djq_disk.specs.declared.disk.DiskLen.TheVariants.{Len}
use Rattle.djq_disk.proofs.Files.{told_both}
use Rattle.djq_log_file.specs.Opening.{OpensLogFile, Identifies}
use Rattle.djq_log_file.proofs.Opens.{sized_short, sized_long}
use Rattle.djq_log_file.proofs.opening.open_log.Goals as goal

pub returns-then-size-le8-clause-told : goal.returns-then-size-le8-clause-told
returns-then-size-le8-clause-told g c =
    let size = c.in-Len.size in
    let answer = c.identify_short.result in
    told_both _ _ _ (λ o m. (k : History) × Syncs Done o k × Sizes (Len size) k m)
    (λ o n. size ≡ length o.file.bytes → Identifies answer o n) (OpensLogFile answer)
    (λ o m n before is. sized_short answer size o before.0 m n before.1 before.2 is)
    (told_both _ _ _ (Syncs Done) (Sizes (Len size)) (λ o m. (k : History) × Syncs Done o k × Sizes (Len size) k m)
    (λ o k m syncs sizes. (k, syncs, sizes)) c.in-Done.ensures.told c.in-Len.ensures.told)
    c.identify_short.ensures.told

pub returns-else-size-le8-clause-told : goal.returns-else-size-le8-clause-told
returns-else-size-le8-clause-told g c =
    let size = c.in-Len.size in
    let answer = c.identify_long.result in
    told_both _ _ _ (λ o m. (k : History) × Syncs Done o k × Sizes (Len size) k m)
    (λ o n. 8 < length o.file.bytes → Identifies answer o n) (OpensLogFile answer)
    (λ o m n before is. sized_long answer size o before.0 m n before.1 before.2 c.if-size-le8.false is)
    (told_both _ _ _ (Syncs Done) (Sizes (Len size)) (λ o m. (k : History) × Syncs Done o k × Sizes (Len size) k m)
    (λ o k m syncs sizes. (k, syncs, sizes)) c.in-Done.ensures.told c.in-Len.ensures.told)
    c.identify_long.ensures.told
