-- All that is gathered is as wide as the first member's head, and that is at most sixteen cells.
use Rattle.std.proofs.Common.{◌≡◌, ℕ, ◌++◌, ◌∷◌, List, length, sym, ap, ◌∙◌, subst, arith}
use Rattle.std.specs.Prelude.{Contains}
use Rattle.djq_live_query.specs.Live.{IsKeptSomewhere}
use Rattle.djq_live_query.specs.Member.{queries_at}
use Rattle.djq_live_query.proofs.Catalogs.{as_many}
use Rattle.djq_gains.specs.Gathered.{Gain}
use Rattle.djq_gains.proofs.DeltaTuples.{middle}
use Rattle.djq_gains.proofs.MemberDeltas.{all_got}
use Rattle.djq_gains.proofs.telling.tell_one.Goals as goal

-- a tuple in the slot is as wide as all
wide_by : (gains : List Gain) (width : ℕ) (front : List Gain) (g : Gain) (back : List Gain)
    → ((q : Gain) → Contains gains q → length q.cells ≡ width) → gains ≡ front ++ g ∷ back
    → length g.cells ≡ width
wide_by gains width front g back wide is =
    wide g (subst (λ (gs : List Gain). Contains gs g) (sym is) (middle front g back))

pub from_slice-cells-requires : goal.from_slice-cells-requires
from_slice-cells-requires g c =
    let lies = c.requires.lies in
    let narrow = c.requires.narrow in
    let wide = wide_by c.args.gains.now.gains c.args.gains.now.width lies.front lies.gain lies.back
    (λ q there. c.laws.ensures.wide q there) lies.is in
    let is = ap (λ (u : List ℕ). length u) (c.cells.ensures lies.front lies.gain lies.back lies.is lies.at) in
    omega arith

pub member-requires-clause-within : goal.member-requires-clause-within
member-requires-clause-within g c =
    let many = as_many c.args.group.now.queries.now c.args.group.now.places.now c.requires.queries.each in
    let some = c.requires.some in
    omega arith

pub put_in_tree-requires-clause-kept : goal.put_in_tree-requires-clause-kept
put_in_tree-requires-clause-kept g c =
    all_got IsKeptSomewhere (queries_at c.args.group.now.queries.now c.args.group.now.places.now) 0
    c.member.result.now c.requires.ready c.member.ensures

pub put_in_tree-requires-clause-long : goal.put_in_tree-requires-clause-long
put_in_tree-requires-clause-long g c =
    let lies = c.requires.lies in
    ap (λ (u : List ℕ). length u) (c.from_slice-cells.ensures
    ∙ c.cells.ensures lies.front lies.gain lies.back lies.is lies.at)
    ∙ wide_by c.args.gains.now.gains c.args.gains.now.width lies.front lies.gain lies.back
    (λ q there. c.laws.ensures.wide q there) lies.is
    ∙ sym (c.requires.wide c.member.result.now c.member.ensures)
