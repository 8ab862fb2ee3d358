-- A write and the sync behind it make one history, in which all outside the piece's part is kept.
use Rattle.djq_disk.specs.History.{DiskWrites, Syncs}
use Rattle.djq_disk.specs.WritingDown.{WritesDown}
use Rattle.djq_disk.specs.declared.disk.DiskDid.TheVariants.{Done, Failed}
use Rattle.djq_disk.proofs.Files.{told_both, told_so, writes_down, fails_down}
use Rattle.djq_disk.proofs.writing_down.write_down.Goals as goal

pub returns-in-Done-clause-told : goal.returns-in-Done-clause-told
returns-in-Done-clause-told g c =
    let at = c.args.at in
    let piece = c.args.piece.now in
    told_both _ _ _ (DiskWrites Done at piece) (Syncs c.sync.result) (WritesDown c.sync.result at piece)
    (writes_down c.sync.result at piece) c.in-Done.ensures.told c.sync.ensures.told

pub returns-in-Failed-clause-told : goal.returns-in-Failed-clause-told
returns-in-Failed-clause-told g c =
    told_so _ _ (DiskWrites Failed c.args.at c.args.piece.now) (WritesDown Failed c.args.at c.args.piece.now)
    (fails_down c.args.at c.args.piece.now) c.in-Failed.ensures.told
