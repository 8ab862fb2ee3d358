-- Members are 8 at most, with fewer than 2^58 atoms each and heads of 16 at most, so the sum is in 64 bits.
use Rattle.std.proofs.Common.{◌≡◌, ◌≤◌, ◌<◌, ◌+◌, ◌-◌, ◌*◌, ◌^◌, ◌∙◌, Some, List, length, map, ap, sym, arith}
use Rattle.std.specs.Prelude.{slice_get}
use Rattle.std.proofs.lemmas.List.{length-map, take_all}
use Rattle.djq_store_spec.specs.Registering.{atoms_of}
use Rattle.djq_live_query.specs.Live.{Live, IsKeptSomewhere}
use Rattle.djq_live_query.specs.Member.{queries_at}
use Rattle.djq_live_query.proofs.Catalogs.{as_many}
use Rattle.djq_gains.proofs.MemberDeltas.{all_got}
use Rattle.djq_store.proofs.Costs.{atoms_more, width_first, member_is, steps_same, steps_fit}
use Rattle.djq_store.proofs.registering.most_of.Goals as goal

pub loop-nth-preserved : goal.loop-nth-preserved
loop-nth-preserved c =
    let ls = queries_at c.args.queries.now c.args.members.now in
    let is = member_is c.args.queries.now c.args.members.now c.loop-nth.nth c.member_in.result.now
    c.requires.members.have c.loop-nth-test.true c.member_in.ensures in
    let more = atoms_more ls c.loop-nth.nth c.member_in.result.now is in
    let count = c.atoms_of-atoms.ensures.count in
    let few = c.atoms_of-atoms.ensures.few in
    let so_far = c.loop-nth.invariant.0 in
    let small = c.loop-nth.invariant.1 in
    (omega (arith, more, count, so_far), omega (arith, few, small))

-- what is in the first place
first_is : (c : goal.After-width-width)
    → slice_get (queries_at c.args.queries.now c.args.members.now) 0 ≡ Some c.member_in-2.result.now
first_is c =
    let several = c.requires.members.several in
    member_is c.args.queries.now c.args.members.now 0 c.member_in-2.result.now c.requires.members.have
    (omega arith) c.member_in-2.ensures

narrow : (c : goal.After-width-width) → c.width-width.result ≤ 16
narrow c =
    c.width-width.ensures.few
    (all_got IsKeptSomewhere (queries_at c.args.queries.now c.args.members.now) 0 c.member_in-2.result.now
    c.requires.kept (first_is c))

all_fit : (c : goal.After-width-width)
    → length c.args.members.now * (2 * c.width-width.result + 1)
    + (length c.args.members.now - 1) * c.loop-nth.atoms < 2 ^ 64
all_fit c =
    let few = c.requires.members.have.few in
    let small = c.loop-nth.invariant.1 in
    let upto = c.loop-nth.auto.nth-end in
    steps_fit (length c.args.members.now) c.width-width.result c.loop-nth.atoms few (narrow c) (omega arith)

pub overflow_mul-result : goal.overflow_mul-result
overflow_mul-result c = let low = narrow c in omega arith

pub overflow_add-result : goal.overflow_add-result
overflow_add-result c = let low = narrow c in omega arith

pub overflow_mul-result-2 : goal.overflow_mul-result-2
overflow_mul-result-2 c = let fit = all_fit c in omega arith

pub overflow_add-result-2 : goal.overflow_add-result-2
overflow_add-result-2 c = let fit = all_fit c in omega arith

pub returns : goal.returns
returns c name =
    let ls = queries_at c.args.queries.now c.args.members.now in
    let long = as_many c.args.queries.now c.args.members.now c.requires.members.have.each in
    let many = length-map ls (λ (l : Live). l.query) in
    let ended = c.loop-nth-test.false in
    let all = take_all c.loop-nth.nth ls (omega arith) in
    let atoms = c.loop-nth.invariant.0 ∙ ap (λ (ms : List Live). atoms_of (map (λ m. m.query) ms)) all in
    steps_same (length c.args.members.now) c.width-width.result c.loop-nth.atoms _ _ _
    (sym (many ∙ long)) (c.width-width.ensures.width ∙ width_first ls c.member_in-2.result.now (first_is c)) atoms
