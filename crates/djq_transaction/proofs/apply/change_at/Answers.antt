-- The row has its copies of before, and gets those of after.
use Rattle.std.proofs.Common.{ℕ, List, ◌∙◌, sym, subst}
use Rattle.djq_transaction.specs.Applied.{HasCopiesAt, SetsCopiesAt}
use Rattle.djq_transaction.proofs.Entries.{line_of}
use Rattle.djq_transaction.proofs.AppliedRows.{changed_headings, changed_passed, changed_counted, changed_more}
use Rattle.djq_transaction.proofs.apply.change_at.Goals as goal

pub row-cells-requires-clause-net : goal.row-cells-requires-clause-net
row-cells-requires-clause-net g c =
    let f = c.requires.first.2 in (
      c.requires.first.0,
      c.requires.first.1,
      f.judged.rows,
      changed_headings c.requires.first.0 c.requires.first.1 c.args.place c.args.catalog.now c.args.net.now f,
    )

pub change_copies-requires-clause-counted : goal.change_copies-requires-clause-counted
change_copies-requires-clause-counted g c =
    let f = c.requires.first.2 in
    let base = c.requires.first.0 in
    let lines = c.requires.first.1 in
    let now = c.args.catalog.now in
    let net = c.args.net.now in
    let place = c.args.place in
    let l = line_of base now.texts net.keys.width lines net place c.index.result.now f.judged.rows c.requires.within
    c.index.ensures in
    let r = c.row-cells.ensures.row base lines l.line f.judged.rows (changed_headings base lines place now net f) l.there in
    subst (λ (us : List ℕ). HasCopiesAt now c.row-cells.result.0.at us c.index.result.now.before) (sym c.as_slice.ensures)
    (changed_counted base lines net now place c.index.result.now l c.laws.ensures.names c.row-cells.result.0.at
    c.row-cells.result.1 r.0 f (sym c.came.ensures ∙ c.if-came.false))

pub returns-then-came-clause-changed : goal.returns-then-came-clause-changed
returns-then-came-clause-changed g c = λ base lines f.
    let now = c.args.catalog.now in
    let net = c.args.net.now in
    let place = c.args.place in
    let l = line_of base now.texts net.keys.width lines net place c.index.result.now f.judged.rows c.requires.within
    c.index.ensures in
    changed_passed base lines net now place c.index.result.now l f (sym c.came.ensures ∙ c.if-came.true)

pub returns-clause-changed : goal.returns-clause-changed
returns-clause-changed g c = λ base lines f.
    let now = c.args.catalog.now in
    let net = c.args.net.now in
    let place = c.args.place in
    let l = line_of base now.texts net.keys.width lines net place c.index.result.now f.judged.rows c.requires.within
    c.index.ensures in
    let r = c.row-cells.ensures.row base lines l.line f.judged.rows (changed_headings base lines place now net f) l.there in
    changed_more base lines net now place c.index.result.now l c.laws.ensures.names c.row-cells.result.0.at
    c.row-cells.result.1 r.0 f (sym c.came.ensures ∙ c.if-came.false) c.change_copies.new.catalog
    (subst (λ (us : List ℕ). SetsCopiesAt now c.row-cells.result.0.at us c.index.result.now.after
    c.change_copies.new.catalog.relations) c.as_slice.ensures c.change_copies.ensures.set) c.change_copies.ensures.texts
