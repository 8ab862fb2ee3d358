-- The names are those of the changed relations, once all lines are read.
use Rattle.std.proofs.Common.{◌≡◌, ◌<◌, ◌∙◌, sym, ap, subst, refl, length, arith, get_or}
use Rattle.std.proofs.lemmas.List.{get_or_default}
use Rattle.djq_model.specs.Data.{Bytes}
use Rattle.djq_store_spec.specs.Done.{has_changed}
use Rattle.djq_store_spec.specs.Held.{transaction_line, no_line}
use Rattle.djq_engine.specs.Carrying.{JoinsNames}
use Rattle.djq_engine.proofs.ReachedQueries.{named_next, named_all}
use Rattle.djq_engine.proofs.carrying.changed_names.Goals as goal

pub loop-at-preserved : goal.loop-at-preserved
loop-at-preserved c =
    let rs = c.args.catalog.now.relations in
    let lines = c.args.held.now.lines in
    let h = transaction_line c.args.held.now c.loop-at.at in
    let low : c.loop-at.at < length lines = omega (arith, c.loop-at-test.true, c.len-at-end.ensures.value) in
    named_next rs lines c.loop-at.at h c.loop-at.names.items c.add_name.new.names.items low
    (get_or_default lines c.loop-at.at no_line h low) c.loop-at.invariant
    (subst (λ (name : Bytes). JoinsNames (has_changed rs lines) name c.loop-at.names.items c.add_name.new.names.items)
    c.relation.ensures (c.in_ok-add_name.ensures (has_changed rs lines) c.requires.changed))

pub returns : goal.returns
returns c = c.loop-at.invariant ∙ named_all c.args.catalog.now.relations c.args.held.now.lines c.loop-at.at
    (omega (arith, c.loop-at-test.false, c.loop-at.auto.at-end, c.len-at-end.ensures.value))
