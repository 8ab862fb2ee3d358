-- Of the order up to the index the affected ones are kept, which are no more than there is room for.
use Rattle.std.proofs.Common.{ℕ, List, [], ◌∷◌, ◌++◌, Bool, cond, ap, sym, arith, length, take, refl, ◌∙◌, get_or}
use Rattle.std.proofs.lemmas.List.{length-take-le}
use Rattle.std.specs.Prelude.{false, filter, slice_index_or, vec_capacity}
use Rattle.djq_store.specs.Affecting.{is_reached_id, is_affected}
use Rattle.djq_store.proofs.Readers.{filter_few, affected_more}
use Rattle.djq_store.proofs.affecting.affect.Goals.{then-is_affected, else-is_affected}
use Rattle.djq_store.proofs.affecting.affect.Goals as goal

pub push_reserved-requires : goal.push_reserved-requires
push_reserved-requires c =
    let few = filter_few (is_affected (is_reached_id c.args.engine.now.affected) c.args.unions.now)
    (take c.loop-nth.nth c.args.order.now) in
    let long = length-take-le c.loop-nth.nth c.args.order.now (omega (arith, c.loop-nth-test.true)) in
    omega (
      arith,
      few,
      long,
      c.loop-nth-test.true,
      c.requires.room,
      c.loop-nth.invariant.room,
      c.loop-nth.affected.ok.0,
      ap (λ (xs : List ℕ). length xs) c.loop-nth.invariant.items,
    )

pub loop-nth-preserved : goal.loop-nth-preserved
loop-nth-preserved c =
    let reached = λ (i : ℕ). slice_index_or c.reached_places-reached.result i false in
    let ids = is_reached_id c.args.engine.now.affected in
    let at = get_or c.args.order.now c.loop-nth.nth 0 in
    let before = filter (is_affected ids c.args.unions.now) (take c.loop-nth.nth c.args.order.now) in
    let more = affected_more reached ids c.args.unions.now c.args.order.now c.if-is_affected.affected.items
    c.loop-nth.nth
    at c.is_affected.result c.loop-nth-test.true refl c.reached_places-reached.ensures c.is_affected.ensures in
    elim c.if-is_affected.branch [
      | then-is_affected w ↦ record {
        items = more (ap (λ v. v.items) w.affected-is ∙ w.push_reserved.ensures.items
            ∙ ap (λ (xs : List ℕ). xs ++ at ∷ []) c.loop-nth.invariant.items
            ∙ sym (ap (λ (b : Bool). cond b (before ++ at ∷ []) before) w.if-is_affected.true));
        room = omega (
          arith,
          c.loop-nth.invariant.room,
          w.push_reserved.ensures.capacity,
          ap (λ v. vec_capacity v)
              w.affected-is,
        );
      }
      | else-is_affected w ↦ record {
        items = more (ap (λ v. v.items) w.affected-is ∙ c.loop-nth.invariant.items
            ∙ sym (ap (λ (b : Bool). cond b (before ++ at ∷ []) before) w.if-is_affected.false));
        room = omega (arith, c.loop-nth.invariant.room, ap (λ v. vec_capacity v) w.affected-is);
      }
    ]
