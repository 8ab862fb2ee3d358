-- A row with an unknown text has no copy; else its copies were looked up.
use Rattle.std.specs.Prelude.{ℕ, List, ◌-◌}
use Rattle.std.proofs.Common.{refl, subst, sym, ◌∙◌}
use Rattle.djq_protocol.specs.declared.held.Verb.TheVariants.{Delete}
use Rattle.djq_transaction.specs.Net.{SetsCopies, line_at}
use Rattle.djq_transaction.proofs.Places.{looked, judged}
use Rattle.djq_transaction.proofs.Judgements.{row_at, told_none, told_some, absent_there, unknown_copies}
use Rattle.djq_transaction.proofs.Judgements.{delete_absent, delete_placed, delete_stops, place_within, one_copy_less}
use Rattle.djq_transaction.proofs.Judgements.{some_left}
use Rattle.djq_transaction.proofs.Adding.{looked_first}
use Rattle.djq_transaction.proofs.judge.judge_delete.Goals as goal

pub returns-then-not-write_cells-clause-err : goal.returns-then-not-write_cells-clause-err
returns-then-not-write_cells-clause-err g c = λ lines n.
    let h = line_at Delete c.args.catalog.now.relations c.args.id.at c.args.row.now in
    let t = told_none c.args.catalog.now.texts c.args.row.now c.args.row.now c.write_cells.new.cells
    c.write_cells.result refl c.if-not-write_cells.true c.write_cells.ensures.tells in
    let a = absent_there c.args.catalog.now.relations c.args.row.now c.args.row.now
    c.write_cells.new.cells c.args.id.at c.write_cells.result refl c.if-not-write_cells.true
    c.requires.line.suits.below c.write_cells.ensures.absent in (
      delete_absent c.args.catalog.now.relations lines h refl
          (unknown_copies c.args.catalog.now lines h c.args.id.at c.args.width c.args.net.now n
          c.requires.line.suits t a),
      refl,
    )

pub returns-then-copies-eq0-clause-err : goal.returns-then-copies-eq0-clause-err
returns-then-copies-eq0-clause-err g c = λ lines n.
    let h = line_at Delete c.args.catalog.now.relations c.args.id.at c.args.row.now in
    let t = told_some c.args.catalog.now.texts c.args.row.now c.args.row.now c.write_cells.new.cells
    c.write_cells.result refl c.if-not-write_cells.false c.write_cells.ensures.tells in
    let l = looked c.args.catalog.now lines h c.args.id.at _ c.args.width c.args.net.now
    c.look_up-place.result.0 c.look_up-place.result.1 c.laws.ensures.names n
    (row_at c.args.catalog.now h c.args.id.at _ c.requires.line.suits t.0 (c.as_slice.ensures ∙ t.1))
    c.look_up-place.ensures.found in (
      delete_absent c.args.catalog.now.relations lines h refl (sym l.after ∙ c.if-copies-eq0.true),
      refl,
    )

pub set-requires-clause-within : goal.set-requires-clause-within
set-requires-clause-within g c = place_within c.args.catalog.now c.args.id.at _ c.args.width c.args.net.now
    c.look_up-place.result.0 c.look_up-place.result.1 c.look_up-place.ensures.found

pub returns-in-Ok-clause-ok : goal.returns-in-Ok-clause-ok
returns-in-Ok-clause-ok g c = λ lines n.
    let h = line_at Delete c.args.catalog.now.relations c.args.id.at c.args.row.now in
    let t = told_some c.args.catalog.now.texts c.args.row.now c.args.row.now c.write_cells.new.cells
    c.write_cells.result refl c.if-not-write_cells.false c.write_cells.ensures.tells in
    let r = row_at c.args.catalog.now h c.args.id.at c.as_slice.result.now c.requires.line.suits t.0
    (c.as_slice.ensures ∙ t.1) in
    let l = looked c.args.catalog.now lines h c.args.id.at _ c.args.width c.args.net.now
    c.look_up-place.result.0 c.look_up-place.result.1 c.laws.ensures.names n r c.look_up-place.ensures.found in (
      judged c.args.catalog.now lines h c.args.id.at c.as_slice.result.now c.args.width
          c.args.net.now c.set.new.self c.look_up-place.result.0 c.look_up-place.result.1 _ c.laws.ensures.names n r l
          (one_copy_less h refl c.look_up-place.result.1)
          (subst (λ (k : List ℕ). SetsCopies c.args.width k c.args.net.now c.look_up-place.result.0
          (record {
            before = c.look_up-place.result.1.before;
            after = c.look_up-place.result.1.after - 1;
          }) c.set.new.self) (c.as_slice-2.ensures ∙ c.look_up-place.ensures.key) c.in-Ok.ensures.ok),
      delete_placed c.args.catalog.now lines h refl
          (some_left c.args.catalog.now.relations lines h c.look_up-place.result.0
          c.look_up-place.result.1 l c.if-copies-eq0.false) c.laws.ensures.many,
    )

pub returns-in-Err-clause-err : goal.returns-in-Err-clause-err
returns-in-Err-clause-err g c = λ lines n.
    let h = line_at Delete c.args.catalog.now.relations c.args.id.at c.args.row.now in
    let t = told_some c.args.catalog.now.texts c.args.row.now c.args.row.now c.write_cells.new.cells
    c.write_cells.result refl c.if-not-write_cells.false c.write_cells.ensures.tells in
    let r = row_at c.args.catalog.now h c.args.id.at c.as_slice.result.now c.requires.line.suits t.0
    (c.as_slice.ensures ∙ t.1) in
    let l = looked c.args.catalog.now lines h c.args.id.at _ c.args.width c.args.net.now
    c.look_up-place.result.0 c.look_up-place.result.1 c.laws.ensures.names n r c.look_up-place.ensures.found in
    delete_stops c.args.catalog.now lines h refl
    (some_left c.args.catalog.now.relations lines h c.look_up-place.result.0 c.look_up-place.result.1 l
    c.if-copies-eq0.false)
    (looked_first c.args.catalog.now.relations lines h c.look_up-place.result.0 c.look_up-place.result.1 l
    c.in-Err.ensures.err) c.laws.ensures.many
