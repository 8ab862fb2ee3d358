-- No line before is of the row, and its relation hasn't it.
use Rattle.std.specs.Prelude.{ℕ, List, None, true, false}
use Rattle.std.proofs.Common.{refl, subst, ◌∙◌, inl}
use Rattle.djq_protocol.specs.declared.held.Verb.TheVariants.{Add}
use Rattle.djq_transaction.specs.Net.{SetsCopies, line_at}
use Rattle.djq_transaction.proofs.Judgements.{copies_with}
use Rattle.djq_transaction.proofs.Adding.{unknown_judged, unknown_first, new_judged, new_placed, new_stops}
use Rattle.djq_transaction.proofs.Adding.{some_learned, no_place_for}
use Rattle.djq_transaction.proofs.judge.add_unknown_row.Goals as goal

pub returns-then-has_no_place-clause-err : goal.returns-then-has_no_place-clause-err
returns-then-has_no_place-clause-err c = λ lines n.
    let h = line_at Add c.args.catalog.now.relations c.args.id.at c.args.row.now in
    inl (
      unknown_judged c.args.catalog.now lines h c.args.id.at c.args.width c.args.net.now
          c.has_no_place.result true c.has_no_place.ensures.refuses c.if-has_no_place.true n c.requires.line.suits refl
          c.requires.unknown c.requires.absent,
      refl,
    )

pub returns-in-Err-Full-clause-err : goal.returns-in-Err-Full-clause-err
returns-in-Err-Full-clause-err c = λ lines n.
    let h = line_at Add c.args.catalog.now.relations c.args.id.at c.args.row.now in
    no_place_for c.args.catalog.now.relations c.args.catalog.now.texts c.intern_cells.new.self.texts lines
    h c.in-Err-Full.field-0 refl
    (unknown_judged c.args.catalog.now lines h c.args.id.at c.args.width c.args.net.now
    c.has_no_place.result false c.has_no_place.ensures.refuses c.if-has_no_place.false n c.requires.line.suits
    refl c.requires.unknown c.requires.absent) c.in-Err-Full.field-0-is c.in-Err-Full.ensures.interns

pub returns-in-Err-NoMem-clause-err : goal.returns-in-Err-NoMem-clause-err
returns-in-Err-NoMem-clause-err c = λ lines n.
    let h = line_at Add c.args.catalog.now.relations c.args.id.at c.args.row.now in
    some_learned c.args.catalog.now.relations c.args.catalog.now.texts c.intern_cells.new.self.texts lines
    h c.in-Err-NoMem.field-0 refl
    (unknown_judged c.args.catalog.now lines h c.args.id.at c.args.width c.args.net.now
    c.has_no_place.result false c.has_no_place.ensures.refuses c.if-has_no_place.false n c.requires.line.suits
    refl c.requires.unknown c.requires.absent)
    (unknown_first c.args.catalog.now lines h c.args.id.at c.args.width c.args.net.now n c.requires.line.suits
    c.requires.unknown c.requires.absent) c.in-Err-NoMem.field-0-is c.in-Err-NoMem.ensures.interns
    c.laws.ensures.many

pub returns-in-Ok-set-clause-ok : goal.returns-in-Ok-set-clause-ok
returns-in-Ok-set-clause-ok c = λ lines n.
    let h = line_at Add c.args.catalog.now.relations c.args.id.at c.args.row.now in
    let i = c.in-Ok.ensures.interns in (
      new_judged c.args.catalog.now c.intern_cells.new.self lines h c.args.id.at c.as_slice.result.now
          c.args.width c.args.net.now c.set.new.self c.laws-2.ensures.names c.intern_cells.ensures.relations i.0 i.1
          (c.as_slice.ensures ∙ i.2) refl n c.requires.line.suits c.requires.unknown c.requires.absent
          (subst (λ (k : List ℕ). SetsCopies c.args.width k c.args.net.now None (copies_with 0 1) c.set.new.self)
          (c.as_slice-2.ensures ∙ c.write.ensures) c.in-Ok-set.ensures.ok),
      new_placed c.args.catalog.now.relations c.args.catalog.now.texts c.intern_cells.new.self.texts lines
          h refl
          (unknown_judged c.args.catalog.now lines h c.args.id.at c.args.width c.args.net.now
          c.has_no_place.result false c.has_no_place.ensures.refuses c.if-has_no_place.false n c.requires.line.suits
          refl c.requires.unknown c.requires.absent) i.0 c.laws-2.ensures.many,
    )

pub returns-in-Err-clause-err : goal.returns-in-Err-clause-err
returns-in-Err-clause-err c = λ lines n.
    let h = line_at Add c.args.catalog.now.relations c.args.id.at c.args.row.now in
    new_stops c.args.catalog.now.relations c.args.catalog.now.texts c.intern_cells.new.self.texts lines
    h refl
    (unknown_judged c.args.catalog.now lines h c.args.id.at c.args.width c.args.net.now
    c.has_no_place.result false c.has_no_place.ensures.refuses c.if-has_no_place.false n c.requires.line.suits
    refl c.requires.unknown c.requires.absent)
    (unknown_first c.args.catalog.now lines h c.args.id.at c.args.width c.args.net.now n c.requires.line.suits
    c.requires.unknown c.requires.absent) c.in-Ok.ensures.interns.0 c.laws-2.ensures.many
