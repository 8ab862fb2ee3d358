-- The closed gate ends the log behind the records.
use Rattle.std.proofs.Common.{[], ◌∷◌}
use Rattle.djq_disk.specs.History.{DiskWrites, Syncs}
use Rattle.djq_disk.specs.declared.disk.DiskDid.TheVariants.{Done, Failed}
use Rattle.djq_disk.proofs.Files.{told_so, told_both}
use Rattle.djq_log_file.specs.Making.{MakesAfter}
use Rattle.djq_log_file.specs.declared.maker.LogMade.TheVariants.{Made, Failed as Unmade}
use Rattle.djq_log_file.proofs.Ends.{ends_at}
use Rattle.djq_log_file.proofs.Makes.{finished, unfinished, made_unsynced}
use Rattle.djq_log_file.proofs.maker.LogMaker.finish.Goals as goal

pub returns-in-Done-sync-clause-told : goal.returns-in-Done-sync-clause-told
returns-in-Done-sync-clause-told g c =
    let at = c.self.inside.at in
    let inside = ends_at at c.self.inside.digest in
    let end = c.new.result in
    told_both _ _ _ (DiskWrites Done at (0 ∷ [])) (Syncs Done) (MakesAfter (Made end) c.args.self)
    (λ o m n writes syncs. finished end inside c.args.self o m n c.new.ensures c.self.view_is writes syncs)
    c.in-Done.ensures.told c.in-Done-sync.ensures.told

pub returns-in-Failed-sync-clause-told : goal.returns-in-Failed-sync-clause-told
returns-in-Failed-sync-clause-told g c =
    let at = c.self.inside.at in
    told_both _ _ _ (DiskWrites Done at (0 ∷ [])) (Syncs Failed) (MakesAfter Unmade c.args.self)
    (λ o m n writes syncs. made_unsynced at c.args.self o m n writes syncs)
    c.in-Done.ensures.told c.in-Failed-sync.ensures.told

pub returns-in-Failed-clause-told : goal.returns-in-Failed-clause-told
returns-in-Failed-clause-told g c =
    let at = c.self.inside.at in
    told_so _ _ (DiskWrites Failed at (0 ∷ [])) (MakesAfter Unmade c.args.self)
    (λ o n writes. unfinished at c.args.self o n writes) c.in-Failed.ensures.told
