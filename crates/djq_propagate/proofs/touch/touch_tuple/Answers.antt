-- A tuple stands once in a table, so where it is absent, or marked, there is nothing left to mark.
use Rattle.std.proofs.Common.{◌≡◌, true, sym, ◌∙◌, arith}
use Rattle.djq_index.specs.Tuple.{same, one_if}
use Rattle.djq_index.specs.Entries.{count_of, is_marked}
use Rattle.djq_index.specs.Changes.{Touched}
use Rattle.std.specs.Prelude.{slice_set}
use Rattle.djq_reduct.specs.Tables.{entries_at}
use Rattle.djq_propagate.proofs.Families.{apart_of, family_read, of_read, same_set, onto_key, changed_into}
use Rattle.djq_propagate.proofs.Families.{touched_supported}
use Rattle.djq_propagate.proofs.Walks.{has_table, as_live}
use Rattle.djq_propagate.proofs.Touches.{touched_none, touched_one, one_absent, one_marked}
use Rattle.djq_propagate.proofs.touch.touch_tuple.Goals as goal

pub index_mut-table-requires : goal.index_mut-table-requires
index_mut-table-requires g c =
    omega (
      arith,
      has_table c.args.tree.now c.args.tables.now.items c.args.at c.requires.family c.requires.within,
      c.args.tables.now.ok.0,
    )

pub marked-requires : goal.marked-requires
marked-requires g c =
    as_live c.index_mut-table.result.now.entries c.in-Some.place c.args.tuple.now c.in-Some.ensures.found

pub returns-then-marked-clause-touched : goal.returns-then-marked-clause-touched
returns-then-marked-clause-touched g c =
    let r = family_read c.args.tree.now c.args.tables.now.items c.args.at c.index_mut-table.result.now c.requires.family
    c.requires.within c.index_mut-table.ensures.value in
    rw (same_set r)
    (touched_none c.args.tree.now c.args.tables.now.items c.args.at (λ v. one_if (same c.args.tuple.now v))
    c.requires.family (λ v there some. one_marked (entries_at c.args.tables.now.items c.args.at) c.args.tuple.now v
    (apart_of c.args.tree.now c.args.tables.now.items c.requires.family c.args.at)
    (of_read (λ es. is_marked es c.args.tuple.now ≡ true) r
    (sym (c.marked.ensures c.args.tuple.now c.in-Some.ensures.found) ∙ c.if-marked.true)) there some))

pub returns-then-marked-clause-counted : goal.returns-then-marked-clause-counted
returns-then-marked-clause-counted g c =
    omega (arith, c.find.ensures.counted)

pub touch-requires : goal.touch-requires
touch-requires g c =
    record {
      tuple = c.args.tuple.now;
      is_at = c.in-Some.ensures.found;
      plain = sym
          (c.marked.ensures c.args.tuple.now c.in-Some.ensures.found) ∙ c.if-marked.false;
    }

pub returns-else-marked-clause-touched : goal.returns-else-marked-clause-touched
returns-else-marked-clause-touched g c =
    let t = c.index_mut-table.result.now in
    let r = family_read c.args.tree.now c.args.tables.now.items c.args.at t c.requires.family c.requires.within
    c.index_mut-table.ensures.value in
    let x = c.touch.ensures.touched c.args.tuple.now c.in-Some.ensures.found in
    touched_one c.args.tree.now c.args.tables.now.items (slice_set c.args.tables.now.items c.args.at c.touch.new.self)
    c.args.at c.args.tuple.now c.requires.family
    (changed_into r c.touch.ensures.table c.touch.ensures.key c.touch.ensures.width
    (λ a. touched_supported t.key t.entries c.touch.new.self.entries c.args.tuple.now x a))
    (onto_key (λ ks es fs. Touched ks es fs c.args.tuple.now) c.touch.new.self r x)

pub returns-else-marked-clause-counted : goal.returns-else-marked-clause-counted
returns-else-marked-clause-counted g c =
    omega (arith, c.find.ensures.counted, c.touch.ensures.counted)

pub returns-in-None-clause-touched : goal.returns-in-None-clause-touched
returns-in-None-clause-touched g c =
    let r = family_read c.args.tree.now c.args.tables.now.items c.args.at c.index_mut-table.result.now c.requires.family
    c.requires.within c.index_mut-table.ensures.value in
    rw (same_set r)
    (touched_none c.args.tree.now c.args.tables.now.items c.args.at (λ v. one_if (same c.args.tuple.now v))
    c.requires.family (λ v there some. one_absent (entries_at c.args.tables.now.items c.args.at) c.args.tuple.now v
    (of_read (λ es. count_of es c.args.tuple.now ≡ 0) r c.in-None.ensures.found) there some))

pub returns-in-None-clause-counted : goal.returns-in-None-clause-counted
returns-in-None-clause-counted g c =
    omega (arith, c.find.ensures.counted)
