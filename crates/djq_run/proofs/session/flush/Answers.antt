-- What a write took is one more step of the course, and leaves fewer bytes pending, or none.
use Rattle.std.proofs.Common.{rules, ◌≤◌, ◌∙◌, length, take, refl, ap, arith}
use Rattle.djq_machine.specs.Run.{pending_of}
use Rattle.djq_run_laws.specs.Moved.{SessionTakes}
use Rattle.djq_run_laws.proofs.Courses.{took_facts}
use Rattle.djq_run.proofs.Runs.{goes_begun, goes_then, by_write, by_fault, fewer_pending, none_pending}
use Rattle.djq_run.proofs.session.flush.Goals as goal

-- nothing was written yet
pub writes-init : goal.writes-init
writes-init g c = record { is_open = c.requires; course = λ o. goes_begun _ _; held = refl; cause = refl; same = refl }

-- a write that took some bytes
pub writes-smaller : goal.writes-smaller
writes-smaller g c =
    let state = g.M.Machine.state in
    let same = c.pending-pending.ensures in
    let takes = c.in-Took.ensures.takes in
    let within : c.in-Took.count ≤ length (pending_of (state c.writes.machine) 1) =
    omega (arith, takes.1, ap length same) in
    fewer_pending c.in-Took.count (state c.writes.machine) (state c.took.new.self) takes.0 within
    (took_facts _ 1 _ c.took.ensures.effect _ c.took.ensures.step)

pub writes-preserved : goal.writes-preserved
writes-preserved g c =
    let state = g.M.Machine.state in
    let same = c.pending-pending.ensures in
    let takes = c.in-Took.ensures.takes in
    let t : SessionTakes (state c.writes.machine) (state c.took.new.self) 1
    (take c.in-Took.count (pending_of (state c.writes.machine) 1)) =
    took_facts _ 1 _ c.took.ensures.effect _ c.took.ensures.step in
    record {
      is_open = t.stays;
      course = λ o. goes_then _ _ _ _ _ _ _ (c.writes.invariant.course o)
          (by_write o _ _ _ _ c.in-Took.count _ _ _ same takes.0 takes.1 c.in-Took.ensures.told c.took.ensures);
      held = t.held ∙ c.writes.invariant.held;
      cause = t.cause ∙ c.writes.invariant.cause;
      same = c.in-Took.ensures.faults ∙ c.writes.invariant.same;
    }

-- a write that took all
pub returns-then-count-len : goal.returns-then-count-len
returns-then-count-len g c =
    let state = g.M.Machine.state in
    let same = c.pending-pending.ensures in
    let takes = c.in-Took.ensures.takes in
    let t : SessionTakes (state c.writes.machine) (state c.took.new.self) 1
    (take c.in-Took.count (pending_of (state c.writes.machine) 1)) =
    took_facts _ 1 _ c.took.ensures.effect _ c.took.ensures.step in
    record {
      course = λ o. goes_then _ _ _ _ _ _ _ (c.writes.invariant.course o)
          (by_write o _ _ _ _ c.in-Took.count _ _ _ same takes.0 takes.1 c.in-Took.ensures.told c.took.ensures);
      is_open = t.stays;
      held = t.held ∙ c.writes.invariant.held;
      cause = t.cause ∙ c.writes.invariant.cause;
      pending = none_pending c.in-Took.count (state c.writes.machine) (state c.took.new.self)
          (omega (arith, c.if-count-len.true, ap length same)) t;
      faults = c.in-Took.ensures.faults ∙ c.writes.invariant.same;
    }

-- a write that failed
pub returns-in-Failed : goal.returns-in-Failed
returns-in-Failed g c =
    record {
      course = λ o. goes_then _ _ _ _ _ _ _ (c.writes.invariant.course o)
          (by_fault o _ _ _ _ _ _ c.pending-pending.ensures c.in-Failed.ensures.told);
      is_open = c.writes.invariant.is_open;
      held = c.writes.invariant.held;
      cause = c.writes.invariant.cause;
      pending = search rules;
      faults = search rules;
    }
