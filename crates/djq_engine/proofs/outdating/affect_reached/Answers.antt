-- What was kept of the places passed is no longer than these, and there is room for the whole order.
use Rattle.std.proofs.Common.{ℕ, List, ap, arith, length, take}
use Rattle.std.proofs.lemmas.List.{length-take-le}
use Rattle.djq_reach.specs.Places.{is_reader}
use Rattle.djq_queries.specs.Changing.{touched}
use Rattle.djq_engine.proofs.Deltas.{filter_few}
use Rattle.djq_engine.proofs.outdating.affect_reached.Goals as goal

pub push_reserved-requires : goal.push_reserved-requires
push_reserved-requires c =
    let few = filter_few (is_reader (touched c.args.readers.now.items c.args.come.now c.args.gone.now))
    (take c.loop-nth.nth c.args.order.now) in
    let long = length-take-le c.loop-nth.nth c.args.order.now (omega (arith, c.loop-nth-test.true)) in
    omega (
      arith,
      few,
      long,
      c.loop-nth-test.true,
      c.requires.room,
      c.loop-nth.invariant.room,
      c.loop-nth.affected.ok.0,
      ap (λ (xs : List ℕ). length xs) c.loop-nth.invariant.items,
    )
