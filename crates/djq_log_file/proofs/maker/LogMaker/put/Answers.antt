-- The record of the group that was measured is written behind those before it.
use Rattle.std.proofs.Common.{List, ℕ, ◌∷◌, ap, ◌∙◌, arith}
use Rattle.djq_disk.specs.declared.disk.DiskDid.TheVariants.{Done as Did, Failed as Failing}
use Rattle.djq_disk.proofs.Files.{told_none, told_so}
use Rattle.djq_log_format.specs.Encoding.{Measured}
use Rattle.djq_log_format.specs.Format.{IsGroup, content_of}
use Rattle.djq_log_file.specs.Places.{LogEndPlace}
use Rattle.djq_log_file.specs.Appending.{end_behind}
use Rattle.djq_log_file.specs.Making.{WritesBehind, PutsAfter}
use Rattle.djq_log_file.specs.declared.maker.GroupPut.TheVariants.{Put, Failed, Full}
use Rattle.djq_log_file.proofs.Ends.{ends_at, end_same}
use Rattle.djq_log_file.proofs.Makes.{group_put, group_unput, group_full}
use Rattle.djq_log_file.proofs.maker.LogMaker.put.Goals as goal

pub write_record-requires-clause-short : goal.write_record-requires-clause-short
write_record-requires-clause-short g c =
    let is = c.in-Some.ensures.some in
    omega (arith, is.0, is.1, ap (λ (m : Measured). m.size) is.2)

pub returns-in-None-clause-told : goal.returns-in-None-clause-told
returns-in-None-clause-told g c =
    let group = g.G.Group.lines c.args.group.now in
    told_none (g.D.Disk.told c.args.disk.now) (PutsAfter Full c.args.self group) (λ o. group_full c.args.self group o)

pub returns-in-Done-clause-told : goal.returns-in-Done-clause-told
returns-in-Done-clause-told g c =
    let group = g.G.Group.lines c.args.group.now in
    let next = c.new.result in
    let is = c.in-Some.ensures.some in
    let at = c.self.inside.at in
    let digest = c.self.inside.digest in
    let inside = ends_at at digest in
    let is_group : IsGroup group = record {
      some = c.requires.some;
      are_lines = is.3;
      short = omega (arith, is.0, is.1);
    } in
    told_so _ _ (WritesBehind Did at (255 ∷ content_of digest group)) (PutsAfter (Put next) c.args.self group)
    (λ o n writes. group_put next inside c.args.self group o n c.self.view_is
    (c.new.ensures ∙ end_same at digest c.in-Some.end c.digest.result group is.0 (c.digest.ensures digest group is.2))
    is_group writes)
    (c.in-Done.ensures.told digest is.2)

pub returns-in-Failed-clause-told : goal.returns-in-Failed-clause-told
returns-in-Failed-clause-told g c =
    let group = g.G.Group.lines c.args.group.now in
    let at = c.self.inside.at in
    let bytes : List ℕ = 255 ∷ content_of c.self.inside.digest group in
    told_so _ _ (WritesBehind Failing at bytes) (PutsAfter Failed c.args.self group)
    (λ o n writes. group_unput c.args.self group at bytes o n writes)
    (c.in-Failed.ensures.told c.self.inside.digest c.in-Some.ensures.some.2)

pub returns-in-Done-clause-room : goal.returns-in-Done-clause-room
returns-in-Done-clause-room g c =
    let group = g.G.Group.lines c.args.group.now in
    let is = c.in-Some.ensures.some in (
      c.new.ensures
          ∙ end_same c.self.inside.at c.self.inside.digest c.in-Some.end c.digest.result group is.0
          (c.digest.ensures c.self.inside.digest group is.2)
          ∙ ap (λ (place : LogEndPlace). end_behind place group) c.self.view_is,
      omega (arith, is.1, ap (λ (place : LogEndPlace). place.at) c.new.ensures),
    )

pub returns-in-Failed-clause-room : goal.returns-in-Failed-clause-room
returns-in-Failed-clause-room g c =
    let is = c.in-Some.ensures.some in
    omega (arith, is.0, is.1, ap (λ (place : LogEndPlace). place.at) c.self.view_is)

pub returns-in-None-clause-room : goal.returns-in-None-clause-room
returns-in-None-clause-room g c =
    omega (arith, c.in-None.ensures.none, ap (λ (place : LogEndPlace). place.at) c.self.view_is)
