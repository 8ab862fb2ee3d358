-- Each member passed has the tuple in its delta or doesn't have it now; one that fails decides.
use Rattle.std.proofs.Common.{ℕ, false, slice_index_or, sym, ap, ◌∙◌, inl, inr, arith}
use Rattle.std.proofs.lemmas.Bool.{false≢true}
use Rattle.std.proofs.lemmas.Option.{slice_get_within, get_or_from_slice_get}
use Rattle.std.proofs.lemmas.List.Sums.{sum_by_more, sum_by_more_le}
use Rattle.djq_live_query.specs.Live.{Live, IsKeptSomewhere}
use Rattle.djq_live_query.specs.Member.{has_cells, queries_at}
use Rattle.djq_gains.specs.Gathering.{asks_of}
use Rattle.djq_gains.proofs.UnionDeltas.{alone_true, alone_false, take_more_le}
use Rattle.djq_gains.proofs.MemberDeltas.{last_or_less, all_got, same_at}
use Rattle.djq_gains.proofs.telling.is_alone.Goals as goal
use Rattle.djq_gains.proofs.telling.is_alone.Goals.{else-not-marks-nth-via-then-not-marks-nth+else-has}
use Rattle.djq_gains.proofs.telling.is_alone.Goals.{else-not-marks-nth-via-else-not-marks-nth}

pub loop-nth-init : goal.loop-nth-init
loop-nth-init g c = record {
  passes = λ m p low. absurd (omega arith);
  counted = omega arith;
}

pub has-requires : goal.has-requires
has-requires g c =
    all_got IsKeptSomewhere (queries_at c.args.group.now.queries.now c.args.group.now.places.now)
    c.loop-nth.nth c.member.result.now c.requires.ready c.member.ensures

pub returns-then-has-clause-alone : goal.returns-then-has-clause-alone
returns-then-has-clause-alone g c =
    sym (alone_false (queries_at c.args.group.now.queries.now c.args.group.now.places.now)
    c.args.marks.now.stands c.args.cells.now c.loop-nth.nth c.member.result.now c.member.ensures
    c.if-not-marks-nth.true (sym c.has.ensures.has ∙ c.if-has.true))

pub returns-then-has-clause-counted : goal.returns-then-has-clause-counted
returns-then-has-clause-counted g c =
    let ls = queries_at c.args.group.now.queries.now c.args.group.now.places.now in
    let l = c.member.result.now in
    let low = slice_get_within ls c.loop-nth.nth l c.member.ensures in
    let most = sum_by_more_le asks_of ls c.loop-nth.nth l low in
    let is = ap asks_of (get_or_from_slice_get ls c.loop-nth.nth l l c.member.ensures) in
    let had = c.loop-nth.invariant.counted in
    let one = c.has.ensures.counted in
    omega arith

pub loop-nth-preserved : goal.loop-nth-preserved
loop-nth-preserved g c =
    let ls = queries_at c.args.group.now.queries.now c.args.group.now.places.now in
    elim c.else-not-marks-nth.branch [
      | else-not-marks-nth-via-then-not-marks-nth+else-has w ↦
          let l = w.member.result.now in
          let low = slice_get_within ls c.loop-nth.nth l w.member.ensures in
          let more = sum_by_more asks_of ls c.loop-nth.nth l low in
          let is = ap asks_of (get_or_from_slice_get ls c.loop-nth.nth l l w.member.ensures) in
          let had = c.loop-nth.invariant.counted in
          let one = w.has.ensures.counted in
          let now = w.listing-is in
          record {
            passes = λ m p under nth out. elim (last_or_less m c.loop-nth.nth under) [
              | inl less ↦ c.loop-nth.invariant.passes m p less nth out
              | inr same ↦ ap (λ (x : Live). has_cells x c.args.cells.now)
                  (same_at ls m c.loop-nth.nth p l same nth w.member.ensures)
                  ∙ sym w.has.ensures.has ∙ w.if-has.false
            ];
            counted = omega arith;
          }
      | else-not-marks-nth-via-else-not-marks-nth w ↦
          let had = c.loop-nth.invariant.counted in
          let now = w.listing-is in
          let more = take_more_le asks_of ls c.loop-nth.nth in
          record {
            passes = λ m p under nth out. elim (last_or_less m c.loop-nth.nth under) [
              | inl less ↦ c.loop-nth.invariant.passes m p less nth out
              | inr same ↦ absurd (false≢true (sym out
                  ∙ ap (λ (n : ℕ). slice_index_or c.args.marks.now.stands n false) same ∙ w.if-not-marks-nth.false))
            ];
            counted = omega arith;
          }
    ]

pub returns-clause-alone : goal.returns-clause-alone
returns-clause-alone g c =
    let ls = queries_at c.args.group.now.queries.now c.args.group.now.places.now in
    let last = c.loop-nth-test.false in
    let count = c.count-nth-end.ensures.count in
    sym (alone_true ls c.args.marks.now.stands c.args.cells.now (λ m p nth out.
    let low = slice_get_within ls m p nth in
    c.loop-nth.invariant.passes m p (omega arith) nth out))
