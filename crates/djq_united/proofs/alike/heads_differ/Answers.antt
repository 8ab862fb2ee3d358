-- The queries passed have the types of the first one, and so the same types as one another.
use Rattle.std.proofs.Common.{◌≡◌, Bool, false, sym, ap, subst, ◌∙◌, arith}
use Rattle.std.specs.Prelude.{not}
use Rattle.std.proofs.lemmas.Option.{same_Some}
use Rattle.djq_live_query.specs.Live.{Live}
use Rattle.djq_live_query.specs.Member.{query_at}
use Rattle.djq_united.proofs.Members.{differs, none_yet, one_differs, finished}
use Rattle.djq_united.proofs.alike.heads_differ.Goals as goal

pub returns-then-not-is_alike-clause-differ : goal.returns-then-not-is_alike-clause-differ
returns-then-not-is_alike-clause-differ c =
    sym (one_differs c.args.queries.now c.args.places.now c.loop-place.place-index
    c.query_in.result.now c.query_in-in-loop-place.result.now c.requires c.loop-place-test.true
    (ap (query_at c.args.queries.now) (sym (c.in-Some.ensures.item.3.1 0)) ∙ c.query_in.ensures)
    c.query_in-in-loop-place.ensures
    (ap (λ (b : Bool). not b) (sym c.is_alike.ensures ∙ c.if-not-is_alike.true)))

pub loop-place-preserved : goal.loop-place-preserved
loop-place-preserved c = λ f there.
    none_yet c.args.queries.now c.args.places.now c.loop-place.place-index f
    c.query_in-in-loop-place.result.now c.loop-place-test.true c.query_in-in-loop-place.ensures
    (subst (λ (g : Live). differs g c.query_in-in-loop-place.result.now ≡ false)
    (same_Some c.query_in.result.now f (sym c.query_in.ensures ∙ there))
    (ap (λ (b : Bool). not b) (sym c.is_alike.ensures ∙ c.if-not-is_alike.false)))
    (c.loop-place.invariant f there)

pub returns-clause-differ : goal.returns-clause-differ
returns-clause-differ c =
    sym (finished c.args.queries.now c.args.places.now c.loop-place.place-index
    c.in-Some.first.now c.requires (c.in-Some.ensures.item.3.0) (c.in-Some.ensures.item.3.1 0)
    (omega arith) c.loop-place.invariant).0

pub returns-clause-alike : goal.returns-clause-alike
returns-clause-alike c =
    (finished c.args.queries.now c.args.places.now c.loop-place.place-index
    c.in-Some.first.now c.requires (c.in-Some.ensures.item.3.0) (c.in-Some.ensures.item.3.1 0)
    (omega arith) c.loop-place.invariant).1
