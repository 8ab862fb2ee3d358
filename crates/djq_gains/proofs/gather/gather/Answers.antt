-- All members' heads are as wide as the first one's, and what is told of those passed is gathered.
use Rattle.std.proofs.Common.{◌≡◌, ℕ, ◌+◌, ◌<◌, ◌≤◌, Option, Some, List, length, sym, ap, ◌∙◌, subst, arith}
use Rattle.std.specs.Prelude.{slice_get}
use Rattle.djq_live_query.specs.Live.{Live, IsKeptSomewhere}
use Rattle.djq_live_query.specs.Member.{queries_at}
use Rattle.djq_live_query.proofs.Catalogs.{as_many}
use Rattle.djq_gains.specs.Gains.{AtFirstMember}
use Rattle.djq_gains.specs.Gathered.{Gathered}
use Rattle.djq_gains.proofs.MemberDeltas.{Collects, collects_none, collects_touched, collects_other, collects_all}
use Rattle.djq_gains.proofs.MemberDeltas.{and_so, all_got, all_kept, wide_member}
use Rattle.djq_gains.proofs.gather.gather.Goals as goal
use Rattle.djq_live_query.proofs.HeadAnswers.{head_are as head_types_are}
use Rattle.djq_gains.proofs.gather.gather.Goals.{then-is_among+in_ok-gather_from, else-is_among}

pub member-requires-clause-within : goal.member-requires-clause-within
member-requires-clause-within c =
    let places = c.places.ensures in
    let many = as_many c.args.engine.now.places c.args.members.now c.requires.queries.each in
    let some = c.requires.some in
    subst (λ (qs : List (Option Live)). 0 < length (queries_at qs c.args.members.now)) (sym places)
    (omega arith)

pub loop-nth-init : goal.loop-nth-init
loop-nth-init c =
    let is = sym c.in_ok-gains.ensures in
    let first = subst (λ (qs : List (Option Live)). slice_get (queries_at qs c.args.members.now) 0
    ≡ Some c.member.result.now) c.places.ensures c.member.ensures in
    let kept = all_got IsKeptSomewhere (queries_at c.args.engine.now.places c.args.members.now) 0 c.member.result.now
    (all_kept c.args.engine.now c.laws.ensures.over c.args.members.now) first in
    record {
      collects = subst (λ (g : Gathered). Collects c.args.engine.now c.args.members.now
          c.args.touched.now 0 g.gains) is
          (collects_none c.args.engine.now c.args.members.now c.args.touched.now);
      wide = subst (λ (g : Gathered). AtFirstMember c.args.engine.now c.args.members.now
          (λ q. g.width ≡ length q.query.head)) is
          (and_so (slice_get (queries_at c.args.engine.now.places c.args.members.now) 0)
          (λ (q : Live). c.width.result ≡ length q.query.head) c.member.result.now first
          c.width.ensures.width);
      narrow = subst (λ (g : Gathered). g.width ≤ 16) is (c.width.ensures.few kept);
    }

pub gather_from-requires-clause-query : goal.gather_from-requires-clause-query
gather_from-requires-clause-query c =
    wide_member c.args.engine.now c.args.members.now c.loop-nth.nth c.loop-nth.gains.width
    head_types_are c.laws.ensures.over c.requires.queries c.requires.alike
    c.loop-nth.invariant.wide c.loop-nth-test.true

pub loop-nth-preserved : goal.loop-nth-preserved
loop-nth-preserved c = elim c.if-is_among.branch [
  | then-is_among+in_ok-gather_from w ↦
      let same = ap (λ (g : Gathered). g.width) w.gains-is ∙ w.gather_from.ensures.width in
      record {
        collects = subst (λ (g : Gathered). Collects c.args.engine.now c.args.members.now
            c.args.touched.now (c.loop-nth.nth + 1) g.gains) (sym w.gains-is)
            (collects_touched c.args.engine.now c.args.members.now c.args.touched.now c.loop-nth.nth
            c.loop-nth.gains.gains w.gather_from.new.gains.gains c.loop-nth.invariant.collects
            c.loop-nth-test.true (sym c.is_among.ensures ∙ w.if-is_among.true)
            w.in_ok-gather_from.ensures.gathered w.in_ok-gather_from.ensures.told
            w.in_ok-gather_from.ensures.few);
        wide = subst (λ (n : ℕ). AtFirstMember c.args.engine.now c.args.members.now
            (λ q. n ≡ length q.query.head)) (sym same) c.loop-nth.invariant.wide;
        narrow = subst (λ (n : ℕ). n ≤ 16) (sym same) c.loop-nth.invariant.narrow;
      }
  | else-is_among w ↦
      let same = ap (λ (g : Gathered). g.width) w.gains-is in
      record {
        collects = subst (λ (g : Gathered). Collects c.args.engine.now c.args.members.now
            c.args.touched.now (c.loop-nth.nth + 1) g.gains) (sym w.gains-is)
            (collects_other c.args.engine.now c.args.members.now c.args.touched.now c.loop-nth.nth
            c.loop-nth.gains.gains c.loop-nth.invariant.collects c.loop-nth-test.true
            (sym c.is_among.ensures ∙ w.if-is_among.false));
        wide = subst (λ (n : ℕ). AtFirstMember c.args.engine.now c.args.members.now
            (λ q. n ≡ length q.query.head)) (sym same) c.loop-nth.invariant.wide;
        narrow = subst (λ (n : ℕ). n ≤ 16) (sym same) c.loop-nth.invariant.narrow;
      }
]

pub returns-clause-gathers : goal.returns-clause-gathers
returns-clause-gathers c =
    let last = c.loop-nth-test.false in
    collects_all c.args.engine.now c.args.members.now c.args.touched.now c.loop-nth.nth
    c.loop-nth.gains.gains c.loop-nth.invariant.collects (omega arith)
