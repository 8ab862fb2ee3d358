-- A query stands in the place, so the engine has it registered, and what its name tells is told of it.
use Rattle.std.proofs.Common.{◌+◌, ◌≤◌, ℕ, length, subst, ap}
use Rattle.std.specs.Prelude.{is_some}
use Rattle.djq_model.specs.Listed.{a_query}
use Rattle.djq_live_query.specs.Member.{query_at}
use Rattle.djq_gains.proofs.MemberDeltas.{and_so}
use Rattle.djq_store.specs.Asking.{TellsMembership}
use Rattle.djq_store.proofs.UnionAnswers.{told_there, steps_there}
use Rattle.djq_answer_laws.proofs.Lists.{some_there}
use Rattle.djq_store.proofs.Places.{seat_here}
use Rattle.djq_store.proofs.asking.has_at.Goals as goal

pub query_name-name-requires : goal.query_name-name-requires
query_name-name-requires g c =
    let q = some_there (query_at c.args.engine.now.places c.args.at) _ c.requires in
    let s = seat_here c.args.engine.now c.laws.ensures c.args.at q.0 q.1 in
    ap is_some s.found

pub returns-clause-tells : goal.returns-clause-tells
returns-clause-tells g c =
    let e = c.args.engine.now in
    let q = some_there (query_at e.places c.args.at) _ c.requires in
    and_so (query_at e.places c.args.at)
    (λ l. TellsMembership (e.store).relations (a_query l.query) c.args.tuple.now c.has.result) q.0 q.1
    (told_there e c.laws.ensures c.args.at q.0 q.1 c.query_name-name.result c.query_name-name.ensures
    c.args.tuple.now c.has.result c.has.ensures.tells)

pub returns-clause-counted : goal.returns-clause-counted
returns-clause-counted g c =
    let e = c.args.engine.now in
    let q = some_there (query_at e.places c.args.at) _ c.requires in
    and_so (query_at e.places c.args.at) (λ l. c.has.new.listing ≤ c.args.listing.now + length l.query.atoms) q.0 q.1
    (subst (λ (n : ℕ). c.has.new.listing ≤ c.args.listing.now + n)
    (steps_there e c.laws.ensures c.args.at q.0 q.1 c.query_name-name.result c.query_name-name.ensures)
    c.has.ensures.counted)
