-- In a group the marked tuples are the last, so the part ends where a marked one follows an unmarked one.
use Rattle.std.proofs.Common.{◌≡◌, ◌∙◌, Option, Some, None, false, ap, sym, subst}
use Rattle.djq_index.specs.declared.place.Place.{Place}
use Rattle.djq_index.specs.Entries.{is_marked}
use Rattle.djq_index.specs.Table.{IsAt}
use Rattle.djq_reduct.specs.Tables.{entries_at}
use Rattle.djq_enumeration.specs.Levels.{source}
use Rattle.djq_enumeration.specs.Walk.{chosen}
use Rattle.djq_enumeration.proofs.LevelChoices.{node_is}
use Rattle.djq_enumeration.specs.Told.{kept}
use Rattle.djq_enumeration.proofs.BackwardWalks.{Marked, if_next, if_last, marks_say, marks_none, live_in, prior_live}
use Rattle.djq_enumeration.proofs.marked.MarkedChoices.next.Goals as goal

pub returns-in_default-clause-none : goal.returns-in_default-clause-none
returns-in_default-clause-none g c =
    let r = c.args.reducts.now in
    let choice = c.args.choice in
    let at = node_is r.tree c.tree.result.now choice.level c.source-node.result c.tree.ensures
    c.source-node.ensures.source in
    let here = is_marked (entries_at r.tables (source r.tree choice.level)) (chosen r choice) in
    if_last r choice c.source-node.result c.table-table.result.now.key
    c.table-table.result.now.entries c.prev.result None here false c.laws.ensures.sound
    c.requires at c.table-table.ensures.key c.table-table.ensures.entries c.prev.ensures.found
    (subst (λ (o : Option Place). Marked r choice o here false) (sym c.in_default.is)
    (marks_none r choice))
    (sym (ap (λ (o : Option Place). kept o here false) c.in_default.is))

pub marked-before_marked-requires : goal.marked-before_marked-requires
marked-before_marked-requires g c =
    let r = c.args.reducts.now in
    let at = node_is r.tree c.tree.result.now c.args.choice.level c.source-node.result
    c.tree.ensures c.source-node.ensures.source in
    prior_live c.table-table.result.now.key c.table-table.result.now.entries c.args.choice.place
    c.in-Some.before c.prev.result
    (live_in r c.args.choice c.source-node.result c.table-table.result.now.entries c.requires at
    c.table-table.ensures.entries) c.prev.ensures.found c.in-Some.is

pub returns-clause-some : goal.returns-clause-some
returns-clause-some g c =
    let r = c.args.reducts.now in
    let choice = c.args.choice in
    let h = c.laws.ensures.sound in
    let at = node_is r.tree c.tree.result.now choice.level c.source-node.result c.tree.ensures
    c.source-node.ensures.source in
    let es = c.table-table.result.now.entries in
    let here = c.marked-here_marked.result in
    let before = c.marked-before_marked.result in
    let m = marks_say r choice c.source-node.result es c.prev.result here before h c.requires at
    c.table-table.ensures.entries c.marked-here_marked.ensures
    (λ q v found is. c.marked-before_marked.ensures v
    (let same : Some q ≡ Some c.in-Some.before = sym found
    ∙ c.in-Some.is in let e : q ≡ c.in-Some.before = cc in subst (λ (p : Place). IsAt es p v) e
    is)) in
    if_next r choice c.source-node.result c.table-table.result.now.key es c.prev.result
    c.keep.result here before h c.requires at c.table-table.ensures.key
    c.table-table.ensures.entries c.prev.ensures.found m
    (c.keep.ensures ∙ sym (ap (λ (o : Option Place). kept o here before) c.in-Some.is))

pub returns-clause-none : goal.returns-clause-none
returns-clause-none g c =
    let r = c.args.reducts.now in
    let choice = c.args.choice in
    let h = c.laws.ensures.sound in
    let at = node_is r.tree c.tree.result.now choice.level c.source-node.result c.tree.ensures
    c.source-node.ensures.source in
    let es = c.table-table.result.now.entries in
    let here = c.marked-here_marked.result in
    let before = c.marked-before_marked.result in
    let m = marks_say r choice c.source-node.result es c.prev.result here before h c.requires at
    c.table-table.ensures.entries c.marked-here_marked.ensures
    (λ q v found is. c.marked-before_marked.ensures v
    (let same : Some q ≡ Some c.in-Some.before = sym found
    ∙ c.in-Some.is in let e : q ≡ c.in-Some.before = cc in subst (λ (p : Place). IsAt es p v) e
    is)) in
    if_last r choice c.source-node.result c.table-table.result.now.key es c.prev.result
    c.keep.result here before h c.requires at c.table-table.ensures.key
    c.table-table.ensures.entries c.prev.ensures.found m
    (c.keep.ensures ∙ sym (ap (λ (o : Option Place). kept o here before) c.in-Some.is))
