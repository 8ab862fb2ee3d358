-- The row isn't there, and with its copies one more is inserted.
use Rattle.std.proofs.Common.{ℕ, List, ◌∙◌, sym, subst}
use Rattle.djq_transaction.specs.Applied.{HasCopiesAt, SetsCopiesAt}
use Rattle.djq_transaction.proofs.Entries.{line_of}
use Rattle.djq_transaction.proofs.AppliedRows.{first_headings, first_passed, first_counted, first_room, first_more}
use Rattle.djq_transaction.proofs.apply.insert_at.Goals as goal

pub row-cells-requires-clause-net : goal.row-cells-requires-clause-net
row-cells-requires-clause-net g c =
    let f = c.requires.first.2 in (
      c.requires.first.0,
      c.requires.first.1,
      f.judged.rows,
      first_headings c.requires.first.0 c.requires.first.1 c.args.place c.args.catalog.now c.args.net.now f,
    )

pub insert_row-requires-clause-counted : goal.insert_row-requires-clause-counted
insert_row-requires-clause-counted g c =
    let f = c.requires.first.2 in
    let base = c.requires.first.0 in
    let lines = c.requires.first.1 in
    let now = c.args.catalog.now in
    let net = c.args.net.now in
    let place = c.args.place in
    let l = line_of base now.texts net.keys.width lines net place c.index.result.now f.judged.rows c.requires.within
    c.index.ensures in
    let r = c.row-cells.ensures.row base lines l.line f.judged.rows (first_headings base lines place now net f) l.there in
    subst (λ (us : List ℕ). HasCopiesAt now c.row-cells.result.0.at us 0) (sym c.as_slice.ensures)
    (first_counted base lines net now place c.index.result.now l c.laws.ensures.names c.row-cells.result.0.at
    c.row-cells.result.1 r.0 f (sym c.came.ensures ∙ c.if-not-came.false))

pub insert_row-requires-clause-few : goal.insert_row-requires-clause-few
insert_row-requires-clause-few g c =
    let f = c.requires.first.2 in
    let base = c.requires.first.0 in
    let lines = c.requires.first.1 in
    let now = c.args.catalog.now in
    let net = c.args.net.now in
    let place = c.args.place in
    let l = line_of base now.texts net.keys.width lines net place c.index.result.now f.judged.rows c.requires.within
    c.index.ensures in
    let r = c.row-cells.ensures.row base lines l.line f.judged.rows (first_headings base lines place now net f) l.there in
    first_room base lines net now place c.index.result.now l c.laws.ensures.names c.row-cells.result.0.at
    c.row-cells.result.1 r.0 f (sym c.came.ensures ∙ c.if-not-came.false)

pub returns-then-not-came-clause-ok : goal.returns-then-not-came-clause-ok
returns-then-not-came-clause-ok g c = λ base lines f.
    let now = c.args.catalog.now in
    let net = c.args.net.now in
    let place = c.args.place in
    let l = line_of base now.texts net.keys.width lines net place c.index.result.now f.judged.rows c.requires.within
    c.index.ensures in
    first_passed base lines net now place c.index.result.now l f (sym c.came.ensures ∙ c.if-not-came.true)

pub returns-clause-ok : goal.returns-clause-ok
returns-clause-ok g c = λ base lines f.
    let now = c.args.catalog.now in
    let net = c.args.net.now in
    let place = c.args.place in
    let l = line_of base now.texts net.keys.width lines net place c.index.result.now f.judged.rows c.requires.within
    c.index.ensures in
    let r = c.row-cells.ensures.row base lines l.line f.judged.rows (first_headings base lines place now net f) l.there in
    first_more base lines net now place c.index.result.now l c.laws.ensures.names c.row-cells.result.0.at
    c.row-cells.result.1 r.0 f (sym c.came.ensures ∙ c.if-not-came.false) c.insert_row.new.catalog
    (subst (λ (us : List ℕ). SetsCopiesAt now c.row-cells.result.0.at us c.index.result.now.after
    c.insert_row.new.catalog.relations) c.as_slice.ensures c.in_ok-insert_row.ensures.set) c.insert_row.ensures.texts
