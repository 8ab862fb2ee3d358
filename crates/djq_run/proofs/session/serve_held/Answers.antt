-- The course so far goes on by a flush and a line, and each line leaves less that may be run.
use Rattle.std.proofs.Common.{◌∙◌, not, refl, sym, ap, inl, arith}
use Rattle.djq_machine.specs.Call.{counts}
use Rattle.djq_run.proofs.Runs.{goes_begun, goes_then, line_ran, work_same, awaits}
use Rattle.djq_run.proofs.Alone.{alone_flushed, alone_line, next_runs, none_left}
use Rattle.djq_run.proofs.session.serve_held.Goals as goal

-- Nothing was done yet.
pub lines-init : goal.lines-init
lines-init g c = record {
  is_open = c.requires.is_open;
  alone = c.requires.alone;
  course = λ o. goes_begun _ _;
  input = λ e. e;
  same = refl;
}

-- What is next is a line of session 1, and the commit is empty.
pub step-requires : goal.step-requires
step-requires g c = record {
  ready = next_runs _ _ c.ready.result c.clear_commit.ensures.state
      (alone_flushed _ _ _ _ _ _ _ c.lines-test.ensures c.lines.invariant.alone)
      (c.is_none.ensures ∙ ap not c.if-is_none.false) c.ready.ensures;
  room = inl c.clear_commit.ensures.commit;
}

-- A line leaves less that may be run.
pub lines-smaller : goal.lines-smaller
lines-smaller g c =
    let state = g.M.Machine.state in
    let flushed = c.lines-test.ensures in
    let line = line_ran (state c.flush.new.machine) (state c.clear_commit.new.self) (state c.step.new.self) _ _ _ _
    c.clear_commit.ensures.state flushed.is_open flushed.pending c.step.ensures in
    omega (
      arith,
      line.fewer,
      work_same (state c.lines.machine) (state c.flush.new.machine) flushed.cause flushed.held,
    )

-- The run so far, a flush, and a line.
pub lines-preserved : goal.lines-preserved
lines-preserved g c =
    let state = g.M.Machine.state in
    let before = counts c.lines.steps.listing c.lines.steps.update c.lines.steps.rows in
    let flushed = c.lines-test.ensures in
    let line = line_ran (state c.flush.new.machine) (state c.clear_commit.new.self) (state c.step.new.self) _ _ _ _
    c.clear_commit.ensures.state flushed.is_open flushed.pending c.step.ensures in
    record {
      is_open = line.is_open;
      alone = alone_line _ _ _ _ line (alone_flushed _ _ _ _ _ _ _ flushed c.lines.invariant.alone);
      course = λ o. goes_then _ _ _ _ _ _ _ (c.lines.invariant.course o)
          (goes_then _ _ _ _ _ _ _ (flushed.course (record o { counted = before })) (line.course o _ _));
      input = λ e. absurd (line.input e);
      same = flushed.faults ∙ c.lines.invariant.same;
    }

-- The run so far, and a flush, after which no line may be run.
pub returns-in-Some-clause-course : goal.returns-in-Some-clause-course
returns-in-Some-clause-course g c o =
    let before = counts c.lines.steps.listing c.lines.steps.update c.lines.steps.rows in
    goes_then _ _ _ _ _ _ _ (c.lines.invariant.course o) (c.lines-test.ensures.course (record o { counted = before }))

pub returns-in-None-clause-course : goal.returns-in-None-clause-course
returns-in-None-clause-course g c o =
    let before = counts c.lines.steps.listing c.lines.steps.update c.lines.steps.rows in
    goes_then _ _ _ _ _ _ _ (c.lines.invariant.course o) (c.lines-test.ensures.course (record o { counted = before }))

pub returns-in-None-clause-serves : goal.returns-in-None-clause-serves
returns-in-None-clause-serves g c =
    let flushed = c.lines-test.ensures in
    let running = sym c.in-None.ensures in
    let st = g.M.Machine.state c.flush.new.machine in
    awaits st flushed.is_open flushed.pending running
    (none_left st c.ready.result (alone_flushed _ _ _ _ _ _ _ flushed c.lines.invariant.alone)
    (c.is_none.ensures ∙ ap not c.if-is_none.true) c.ready.ensures running)

-- The run so far, and a flush that failed.
pub returns-clause-course : goal.returns-clause-course
returns-clause-course g c o =
    let before = counts c.lines.steps.listing c.lines.steps.update c.lines.steps.rows in
    goes_then _ _ _ _ _ _ _ (c.lines.invariant.course o) (c.lines-test.ensures.course (record o { counted = before }))
