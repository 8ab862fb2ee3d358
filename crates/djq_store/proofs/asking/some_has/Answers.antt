-- No member before the index has the tuple, and each counted its atoms; all have the types of the first.
use Rattle.std.proofs.Common.{◌∙◌, get_or, subst, ap, arith}
use Rattle.std.specs.Prelude.{Bool, true, false, IsSomeAnd, Result, Ok}
use Rattle.djq_protocol.specs.declared.answer.Refusal.{Refusal}
use Rattle.djq_model.specs.Listed.{a_query}
use Rattle.djq_live_query.specs.Member.{query_at}
use Rattle.djq_store.specs.Asking.{TellsMembership}
use Rattle.djq_store.proofs.UnionAnswers.{asked_more, atoms_part, counted_more, counted_part, one_has, one_refuses}
use Rattle.djq_store.proofs.UnionAnswers.{all_lack, all_there}
use Rattle.djq_answer_laws.proofs.Lists.{some_there}
use Rattle.djq_live_query.proofs.HeadAnswers.{head_are as head_types_are}
use Rattle.djq_store.proofs.asking.some_has.Goals as goal

pub loop-nth-init : goal.loop-nth-init
loop-nth-init g c = record {
  told = λ i low. absurd (omega (arith, low));
  counted = omega arith;
}

pub has_at-requires : goal.has_at-requires
has_at-requires g c =
    all_there c.args.engine.now.places c.args.members.now c.requires.have c.loop-nth.nth c.loop-nth-test.true

pub returns-in-Ok-true-clause-tells : goal.returns-in-Ok-true-clause-tells
returns-in-Ok-true-clause-tells g c = λ name.
    let e = c.args.engine.now in
    let q = some_there (query_at e.places (get_or c.args.members.now c.loop-nth.nth 0))
    (λ l. TellsMembership (e.store).relations (a_query l.query) c.args.tuple.now (Ok true))
    (subst (λ (r : Result Bool Refusal). IsSomeAnd (query_at e.places (get_or c.args.members.now c.loop-nth.nth 0))
    (λ l. TellsMembership (e.store).relations (a_query l.query) c.args.tuple.now r))
    (c.in-Ok-true.is ∙ ap (λ (b : Bool). Ok b) c.in-Ok-true.field-0-test) c.has_at.ensures.tells) in
    one_has e c.laws.ensures.over head_types_are c.args.members.now c.requires name
    c.args.tuple.now
    c.loop-nth.nth c.loop-nth-test.true q.0 q.1 q.2

pub returns-in-Ok-true-clause-counted : goal.returns-in-Ok-true-clause-counted
returns-in-Ok-true-clause-counted g c =
    counted_part c.args.engine.now.places c.args.members.now c.loop-nth.nth c.loop-nth-test.true
    c.args.listing.now c.loop-nth.listing c.has_at.new.listing c.loop-nth.invariant.counted c.in-Ok-true.ensures.counted

pub returns-in-Err-clause-tells : goal.returns-in-Err-clause-tells
returns-in-Err-clause-tells g c = λ name.
    let e = c.args.engine.now in
    let q = some_there (query_at e.places (get_or c.args.members.now c.loop-nth.nth 0)) _ c.in-Err.ensures.tells in
    one_refuses e c.laws.ensures.over head_types_are c.args.members.now c.requires name
    c.args.tuple.now
    c.loop-nth.nth c.loop-nth-test.true q.0 q.1 c.in-Err.refusal q.2

pub returns-in-Err-clause-counted : goal.returns-in-Err-clause-counted
returns-in-Err-clause-counted g c =
    counted_part c.args.engine.now.places c.args.members.now c.loop-nth.nth c.loop-nth-test.true
    c.args.listing.now c.loop-nth.listing c.has_at.new.listing c.loop-nth.invariant.counted c.in-Err.ensures.counted

pub loop-nth-preserved : goal.loop-nth-preserved
loop-nth-preserved g c = record {
  told = asked_more (λ i. IsSomeAnd (query_at c.args.engine.now.places (get_or c.args.members.now i 0))
      (λ q. TellsMembership (c.args.engine.now.store).relations (a_query q.query) c.args.tuple.now (Ok false)))
      c.loop-nth.nth c.loop-nth.invariant.told
      (subst (λ (r : Result Bool Refusal). IsSomeAnd
      (query_at c.args.engine.now.places (get_or c.args.members.now c.loop-nth.nth 0))
      (λ q. TellsMembership (c.args.engine.now.store).relations (a_query q.query) c.args.tuple.now r))
      (c.in-Ok-false.is ∙ ap (λ (b : Bool). Ok b) c.in-Ok-false.field-0-test) c.has_at.ensures.tells);
  counted = counted_more c.args.engine.now.places c.args.members.now c.loop-nth.nth c.loop-nth-test.true
      c.args.listing.now c.loop-nth.listing c.has_at.new.listing c.loop-nth.invariant.counted
      c.in-Ok-false.ensures.counted;
}

pub returns-clause-tells : goal.returns-clause-tells
returns-clause-tells g c = λ name.
    all_lack c.args.engine.now c.laws.ensures.over head_types_are c.args.members.now c.requires
    name c.args.tuple.now
    (λ i low. c.loop-nth.invariant.told i (omega (arith, low, c.loop-nth-test.false)))

pub returns-clause-counted : goal.returns-clause-counted
returns-clause-counted g c =
    let part = atoms_part c.args.engine.now.places c.args.members.now c.loop-nth.nth in
    omega (arith, part, c.loop-nth.invariant.counted)
