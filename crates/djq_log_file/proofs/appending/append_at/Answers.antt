-- The content is synced behind the closed gate before it is opened, so a crash leaves the group or nothing.
use Rattle.std.proofs.Common.{◌+◌, ℕ, List, [], ◌∷◌, ◌++◌, ap, arith}
use Rattle.djq_disk.specs.History.{History, Syncs}
use Rattle.djq_disk.specs.WritingDown.{WritesDown}
use Rattle.djq_disk.specs.declared.disk.DiskDid.TheVariants.{Done, Failed}
use Rattle.djq_disk.proofs.Files.{told_so, told_both}
use Rattle.djq_log_format.specs.Encoding.{Measured}
use Rattle.djq_log_format.specs.Format.{IsGroup, content_of}
use Rattle.djq_log_file.specs.Places.{LogEndPlace}
use Rattle.djq_log_file.specs.Laying.{WritesFrom}
use Rattle.djq_log_file.specs.Appending.{AppendsHere}
use Rattle.djq_log_file.proofs.Appends.{unwritten, unsynced, appended}
use Rattle.djq_log_file.proofs.appending.append_at.Goals as goal

pub write_content-requires-clause-short : goal.write_content-requires-clause-short
write_content-requires-clause-short g c =
    omega (arith, c.requires.room, ap (λ (m : Measured). m.size) c.requires.is_measured)

pub returns-in-Done-sync-clause-told : goal.returns-in-Done-sync-clause-told
returns-in-Done-sync-clause-told g c =
    let group = g.G.Group.lines c.args.group.now in
    let digest = c.args.digest in
    let gate = c.args.gate in
    let place : LogEndPlace = record { at = gate; digest = digest } in
    let content : List ℕ = content_of digest group ++ 0 ∷ [] in
    let did = c.write_down.result in
    let is_group : IsGroup group = record {
      some = c.requires.some;
      are_lines = c.requires.lines;
      short = omega (arith, c.requires.room);
    } in
    told_both _ _ _ (λ o s. (m : History) × WritesFrom Done (gate + 1) content o m × Syncs Done m s)
    (WritesDown did gate (255 ∷ [])) (AppendsHere did place group)
    (λ o s n before down. appended did place group o before.0 s n is_group before.1 before.2 down)
    (told_both _ _ _ (WritesFrom Done (gate + 1) content) (Syncs Done)
    (λ o s. (m : History) × WritesFrom Done (gate + 1) content o m × Syncs Done m s)
    (λ o m s writes syncs. (m, writes, syncs)) (c.in-Done.ensures.told digest c.requires.is_measured)
    c.in-Done-sync.ensures.told)
    c.write_down.ensures.told

pub returns-in-Failed-sync-clause-told : goal.returns-in-Failed-sync-clause-told
returns-in-Failed-sync-clause-told g c =
    let group = g.G.Group.lines c.args.group.now in
    let gate = c.args.gate in
    let place : LogEndPlace = record { at = gate; digest = c.args.digest } in
    let content : List ℕ = content_of c.args.digest group ++ 0 ∷ [] in
    told_both _ _ _ (WritesFrom Done (gate + 1) content) (Syncs Failed) (AppendsHere Failed place group)
    (λ o m n writes syncs. unsynced place group content o m n writes syncs)
    (c.in-Done.ensures.told c.args.digest c.requires.is_measured) c.in-Failed-sync.ensures.told

pub returns-in-Failed-clause-told : goal.returns-in-Failed-clause-told
returns-in-Failed-clause-told g c =
    let group = g.G.Group.lines c.args.group.now in
    let gate = c.args.gate in
    let place : LogEndPlace = record { at = gate; digest = c.args.digest } in
    let content : List ℕ = content_of c.args.digest group ++ 0 ∷ [] in
    told_so _ _ (WritesFrom Failed (gate + 1) content) (AppendsHere Failed place group)
    (λ o n writes. unwritten place group content o n writes)
    (c.in-Failed.ensures.told c.args.digest c.requires.is_measured)
