-- Each line takes three bytes and its own, and the first lines of a group end no further than all do.
use Rattle.std.proofs.Common.{◌+◌, sym, ap, ◌∙◌, arith}
use Rattle.std.proofs.lemmas.Option.{slice_get_within}
use Rattle.djq_journal.specs.Appending.{gate_after}
use Rattle.djq_journal.proofs.Records.{gate_next, gate_most, past_lines}
use Rattle.djq_journal.proofs.appending.end_of.Goals as goal

pub returns-then-end-size-clause-none : goal.returns-then-end-size-clause-none
returns-then-end-size-clause-none g c =
    let lines = g.G.Group.lines c.args.group.now in
    let next = gate_next c.args.gate lines c.loop-line.i c.in-Some.line.now c.in-Some.ensures in
    let most = gate_most c.args.gate lines (c.loop-line.i + 1) in
    omega (arith, next, most, c.loop-line.invariant.end)

pub loop-line-smaller : goal.loop-line-smaller
loop-line-smaller g c =
    let within = slice_get_within (g.G.Group.lines c.args.group.now) c.loop-line.i c.in-Some.line.now
    (sym c.in-Some.ensures) in
    omega (arith, within)

pub loop-line-preserved : goal.loop-line-preserved
loop-line-preserved g c =
    let next = gate_next c.args.gate (g.G.Group.lines c.args.group.now) c.loop-line.i c.in-Some.line.now
    c.in-Some.ensures in
    record {
      end = omega (arith, next, c.loop-line.invariant.end);
      within = omega arith;
      few = omega
          (arith, c.loop-line.invariant.few);
    }

pub returns-clause-some : goal.returns-clause-some
returns-clause-some g c =
    let all = (past_lines (g.G.Group.lines c.args.group.now) c.loop-line.i c.in_default.ensures).0 in
    (c.loop-line.invariant.end ∙ ap (λ part. gate_after c.args.gate part) all, c.loop-line.invariant.within)
