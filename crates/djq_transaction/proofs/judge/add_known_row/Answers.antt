-- The row's copies were looked up, and whether one more has its place.
use Rattle.std.specs.Prelude.{ℕ, List, ◌+◌}
use Rattle.std.proofs.Common.{refl, ap, subst, ◌∙◌, inl}
use Rattle.djq_store_spec.specs.Judging.{limit_if}
use Rattle.djq_protocol.specs.declared.held.Verb.TheVariants.{Add}
use Rattle.djq_transaction.specs.Net.{SetsCopies, line_at}
use Rattle.djq_transaction.proofs.Places.{looked, judged}
use Rattle.djq_transaction.proofs.Judgements.{row_at, place_within}
use Rattle.djq_transaction.proofs.Adding.{known_placed, known_stops, looked_first, one_copy_more}
use Rattle.djq_transaction.proofs.judge.add_known_row.Goals as goal

pub returns-then-has_no_place-clause-err : goal.returns-then-has_no_place-clause-err
returns-then-has_no_place-clause-err g c = λ lines n.
    let h = line_at Add c.args.catalog.now.relations c.args.id.at c.args.row.now in
    let r = row_at c.args.catalog.now h c.args.id.at _ c.requires.line.suits c.requires.have
    (c.as_slice.ensures ∙ c.requires.cells) in
    let l = looked c.args.catalog.now lines h c.args.id.at _ c.args.width c.args.net.now
    c.look_up-place.result.0 c.look_up-place.result.1 c.laws.ensures.names n r c.look_up-place.ensures.found in
    inl (
      c.has_no_place.ensures.refuses lines h n c.requires.line.suits refl l
          ∙ ap (λ b. limit_if b) c.if-has_no_place.true,
      refl,
    )

pub set-requires-clause-within : goal.set-requires-clause-within
set-requires-clause-within g c = place_within c.args.catalog.now c.args.id.at _ c.args.width c.args.net.now
    c.look_up-place.result.0 c.look_up-place.result.1 c.look_up-place.ensures.found

pub returns-in-Ok-clause-ok : goal.returns-in-Ok-clause-ok
returns-in-Ok-clause-ok g c = λ lines n.
    let h = line_at Add c.args.catalog.now.relations c.args.id.at c.args.row.now in
    let r = row_at c.args.catalog.now h c.args.id.at c.as_slice.result.now c.requires.line.suits
    c.requires.have (c.as_slice.ensures ∙ c.requires.cells) in
    let l = looked c.args.catalog.now lines h c.args.id.at _ c.args.width c.args.net.now
    c.look_up-place.result.0 c.look_up-place.result.1 c.laws.ensures.names n r c.look_up-place.ensures.found in (
      judged c.args.catalog.now lines h c.args.id.at c.as_slice.result.now c.args.width c.args.net.now
          c.set.new.self c.look_up-place.result.0 c.look_up-place.result.1 _ c.laws.ensures.names n r l
          (one_copy_more h refl c.look_up-place.result.1)
          (subst (λ (k : List ℕ). SetsCopies c.args.width k c.args.net.now c.look_up-place.result.0
          (record {
            before = c.look_up-place.result.1.before;
            after = c.look_up-place.result.1.after + 1;
          }) c.set.new.self) (c.as_slice-2.ensures ∙ c.look_up-place.ensures.key) c.in-Ok.ensures.ok),
      known_placed c.args.catalog.now lines h refl c.requires.have
          (c.has_no_place.ensures.refuses lines h n c.requires.line.suits refl l
          ∙ ap (λ b. limit_if b) c.if-has_no_place.false) c.laws.ensures.many,
    )

pub returns-in-Err-clause-err : goal.returns-in-Err-clause-err
returns-in-Err-clause-err g c = λ lines n.
    let h = line_at Add c.args.catalog.now.relations c.args.id.at c.args.row.now in
    let r = row_at c.args.catalog.now h c.args.id.at c.as_slice.result.now c.requires.line.suits
    c.requires.have (c.as_slice.ensures ∙ c.requires.cells) in
    let l = looked c.args.catalog.now lines h c.args.id.at _ c.args.width c.args.net.now
    c.look_up-place.result.0 c.look_up-place.result.1 c.laws.ensures.names n r c.look_up-place.ensures.found in
    known_stops c.args.catalog.now lines h
    (c.has_no_place.ensures.refuses lines h n c.requires.line.suits refl l
    ∙ ap (λ b. limit_if b) c.if-has_no_place.false)
    (looked_first c.args.catalog.now.relations lines h c.look_up-place.result.0 c.look_up-place.result.1 l
    c.in-Err.ensures.err) c.laws.ensures.many
