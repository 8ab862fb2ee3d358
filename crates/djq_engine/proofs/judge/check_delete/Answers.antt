-- Cells that are written stand for the row; where none are, a text is unknown, and the row isn't there.
use Rattle.std.proofs.Common.{◌≡◌, ◌<◌, ◌∙◌, ℕ, Bool, true, false, length, subst, sym, arith}
use Rattle.std.specs.Prelude.{IfNone}
use Rattle.djq_model.specs.Data.{has_row}
use Rattle.djq_database.specs.Catalog.{StandForRow, no_relation, relation_at, rows_at}
use Rattle.djq_database.specs.Changes.{TellsRowCells, told_cells}
use Rattle.djq_engine.proofs.Conditions.{delete_absent, delete_limited, delete_passes, delete_several}
use Rattle.djq_leaves.proofs.Fills.{fits_long}
use Rattle.djq_engine.proofs.judge.check_delete.Goals as goal

pub write_cells-requires : goal.write_cells-requires
write_cells-requires g c = omega (
  arith,
  fits_long (relation_at c.args.catalog.now.relations c.in_ok-relation.relation.at).types
      c.args.row.now c.in_ok-relation.ensures.ok.suits,
  (c.laws.ensures.kept c.in_ok-relation.relation.at no_relation
      c.in_ok-relation.ensures.ok.below).narrow,
)

pub returns-then-not-write_cells-clause-ok : goal.returns-then-not-write_cells-clause-ok
returns-then-not-write_cells-clause-ok g c =
    let r = c.args.catalog.now.relations in
    let absent : IfNone (told_cells false c.write_cells.new.cells) ((at : ℕ) → at < length r
    → has_row (rows_at r at) c.args.row.now ≡ false) =
    subst (λ (b : Bool). IfNone (told_cells b c.write_cells.new.cells) ((at : ℕ) → at < length r
    → has_row (rows_at r at) c.args.row.now ≡ false)) c.if-not-write_cells.true
    c.write_cells.ensures.absent in
    delete_absent r c.args.name.now c.args.row.now c.args.seq
    c.in_ok-relation.relation.at c.in_ok-relation.ensures.ok
    (absent c.in_ok-relation.relation.at c.in_ok-relation.ensures.ok.below)

pub returns-then-seq-ne-LAST_SEQ-clause-ok : goal.returns-then-seq-ne-LAST_SEQ-clause-ok
returns-then-seq-ne-LAST_SEQ-clause-ok g c =
    let known : TellsRowCells c.args.catalog.now.texts c.args.row.now
    (told_cells true c.write_cells.new.cells) = subst (λ (b : Bool). TellsRowCells
    c.args.catalog.now.texts c.args.row.now (told_cells b c.write_cells.new.cells))
    c.if-not-write_cells.false c.write_cells.ensures.tells in
    record {
      relation = c.in_ok-relation.ensures.ok;
      passes = delete_passes c.args.catalog.now.relations c.args.name.now c.args.row.now c.args.seq
          c.in_ok-relation.relation.at c.in_ok-relation.ensures.ok (omega arith);
      have = known.0;
      cells = known.1;
      last = λ one. omega arith;
    }

pub returns-then-copies-eq1-clause-err : goal.returns-then-copies-eq1-clause-err
returns-then-copies-eq1-clause-err g c =
    let known : TellsRowCells c.args.catalog.now.texts c.args.row.now
    (told_cells true c.write_cells.new.cells) = subst (λ (b : Bool). TellsRowCells
    c.args.catalog.now.texts c.args.row.now (told_cells b c.write_cells.new.cells))
    c.if-not-write_cells.false c.write_cells.ensures.tells in
    let stand : StandForRow c.args.catalog.now c.in_ok-relation.relation.at c.as_slice.result.now c.args.row.now =
    record {
      of = c.in_ok-relation.ensures.ok.suits;
      have = known.0;
      are = c.as_slice.ensures ∙ known.1;
    } in
    delete_limited c.args.catalog.now.relations c.args.name.now c.args.row.now c.args.seq
    c.in_ok-relation.relation.at c.in_ok-relation.ensures.ok
    (sym (c.copies.ensures.copies c.args.row.now stand) ∙ c.if-copies-eq1.true) c.if-seq-ne-LAST_SEQ.false

pub returns-clause-ok : goal.returns-clause-ok
returns-clause-ok g c =
    let known : TellsRowCells c.args.catalog.now.texts c.args.row.now
    (told_cells true c.write_cells.new.cells) = subst (λ (b : Bool). TellsRowCells
    c.args.catalog.now.texts c.args.row.now (told_cells b c.write_cells.new.cells))
    c.if-not-write_cells.false c.write_cells.ensures.tells in
    let stand : StandForRow c.args.catalog.now c.in_ok-relation.relation.at c.as_slice.result.now c.args.row.now =
    record {
      of = c.in_ok-relation.ensures.ok.suits;
      have = known.0;
      are = c.as_slice.ensures ∙ known.1;
    } in
    let many = c.copies.ensures.copies c.args.row.now stand in
    record {
      relation = c.in_ok-relation.ensures.ok;
      passes = delete_several c.args.catalog.now.relations c.args.name.now c.args.row.now c.args.seq
          c.in_ok-relation.relation.at c.in_ok-relation.ensures.ok (λ one. c.if-copies-eq1.false (many ∙ one));
      have = known.0;
      cells = known.1;
      last = λ one. absurd (c.if-copies-eq1.false (many ∙ one));
    }
