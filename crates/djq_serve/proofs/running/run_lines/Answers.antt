-- Each line leaves less to be run, and its commit goes on where that has room.
use Rattle.std.proofs.Common.{◌≡◌, ◌∙◌, ◌+◌, ℕ, refl, sym, ap, subst, inl, inr, rules, arith}
use Rattle.std.specs.Prelude.{Some, None, false}
use Rattle.djq_machine.specs.Call.{counts}
use Rattle.djq_run_laws.specs.Holding.{HoldLines}
use Rattle.djq_serve.proofs.LoggedGroups.{still_open, disk_faults}
use Rattle.djq_serve.proofs.Lining.{lines_begun, line_still, line_smaller, line_more, line_commits, line_stops, lines_done}
use Rattle.djq_serve.proofs.Lining.{lines_more, line_holds, line_agrees}
use Rattle.djq_serve.proofs.Working.{next_may_run, next_none, spares_same}
use Rattle.djq_serve.proofs.running.run_lines.Goals as goal

pub lines-init : goal.lines-init
lines-init g c =
    let state = g.M.Machine.state in
    let same = c.clear_commit.ensures.state in
    record {
      lining = lines_begun _ (counts c.args.steps.now.listing c.args.steps.now.update c.args.steps.now.rows)
          (state c.args.machine.now) (state c.clear_commit.new.self) _ _ same c.clear_commit.ensures.commit;
      few = omega arith;
      are = rw c.clear_commit.ensures.commit tt;
      room = inl c.clear_commit.ensures.commit;
      hold = subst HoldLines (sym same) c.requires.hold;
      agrees = rw same c.requires.agrees;
      faults = refl;
      disk = refl;
      is_open = refl;
      nowhere = λ none. none;
    }

pub step-requires-clause-ready : goal.step-requires-clause-ready
step-requires-clause-ready g c = next_may_run (g.M.Machine.state c.lines.machine) c.lines.from c.in-Some.id
    (sym c.next_ready.ensures ∙ c.in-Some.is)

pub step-requires-clause-room : goal.step-requires-clause-room
step-requires-clause-room g c = c.lines.invariant.room

pub commit-requires-clause-agrees : goal.commit-requires-clause-agrees
commit-requires-clause-agrees g c =
    let state = g.M.Machine.state in
    rw c.is_full.ensures.state
    (line_agrees (state c.lines.machine) c.in-Some.id (state c.step.new.self) _ _ _ _ (g.H.Hub.ids c.lines.hub)
    c.step.ensures c.lines.invariant.agrees)

pub commit-requires-clause-lines : goal.commit-requires-clause-lines
commit-requires-clause-lines g c =
    let state = g.M.Machine.state in
    rw c.is_full.ensures.commit
    (lines_more (state c.lines.machine) c.in-Some.id (state c.step.new.self) _ _ _ _ c.lines.invariant.hold
    c.step.ensures c.lines.invariant.are)

pub commit-requires-clause-is_open : goal.commit-requires-clause-is_open
commit-requires-clause-is_open g c =
    let inv = c.lines.invariant in
    still_open c.args.log.now c.lines.log _ _ inv.nowhere inv.is_open c.requires.is_open

-- The commit isn't full.

pub lines-smaller : goal.lines-smaller
lines-smaller g c =
    let state = g.M.Machine.state in
    line_smaller (state c.lines.machine) c.lines.from c.in-Some.id (state c.step.new.self)
    (state c.is_full.new.machine) _ _ _ _ (sym c.next_ready.ensures ∙ c.in-Some.is) c.step.ensures
    (rw c.is_full.ensures.state (spares_same (state c.step.new.self)))

pub lines-preserved : goal.lines-preserved
lines-preserved g c =
    let state = g.M.Machine.state in
    let commit = g.M.Machine.commit in
    let inv = c.lines.invariant in
    let st = state c.lines.machine in
    let s = c.in-Some.id in
    let still = c.is_full.ensures.state in
    let also = c.is_full.ensures.commit in
    let at : c.from-from.result ≡ s = search rules in
    let no : c.is_full.result ≡ false = search rules in
    let room = c.is_full.ensures.room no in
    let ran = state c.is_full.new.machine in
    let step = line_still st s (state c.step.new.self) ran _ _ _ _ (commit c.is_full.new.machine) c.step.ensures still
    also in
    record {
      lining = line_more _ _ _ _ _ (state c.args.machine.now) st ran c.lines.from c.lines.count s
          (c.from-from.result + 1) (c.lines.count + 1) _ _ _ _ inv.lining (sym c.next_ready.ensures ∙ c.in-Some.is)
          step (ap (λ (n : ℕ). n + 1) at) refl room.0;
      few = room.0;
      are = lines_more st s ran _ _ _ _ inv.hold step inv.are;
      room = inr room.1;
      hold = line_holds st s ran _ _ _ _ step inv.hold;
      agrees = line_agrees st s ran _ _ _ _ (g.H.Hub.ids c.lines.hub) step inv.agrees;
      faults = inv.faults;
      disk = inv.disk;
      is_open = inv.is_open;
      nowhere = inv.nowhere;
    }

-- The commit was full, and is made.

pub lines-smaller-in-None : goal.lines-smaller-in-None
lines-smaller-in-None g c =
    let state = g.M.Machine.state in
    let step = line_still (state c.lines.machine) c.in-Some.id (state c.step.new.self) (state c.is_full.new.machine)
    _ _ _ _ (g.M.Machine.commit c.is_full.new.machine) c.step.ensures c.is_full.ensures.state
    c.is_full.ensures.commit in
    line_smaller (state c.lines.machine) c.lines.from c.in-Some.id (state c.is_full.new.machine)
    (state c.commit.new.machine) _ _ _ _ (sym c.next_ready.ensures ∙ c.in-Some.is) step c.commit.ensures.spares

pub lines-preserved-in-None : goal.lines-preserved-in-None
lines-preserved-in-None g c =
    let state = g.M.Machine.state in
    let commit = g.M.Machine.commit in
    let inv = c.lines.invariant in
    let st = state c.lines.machine in
    let s = c.in-Some.id in
    let at : c.from-from.result ≡ s = search rules in
    let ran = state c.is_full.new.machine in
    let new = state c.commit.new.machine in
    let none = c.in-None.ensures.empty refl in
    let step = line_still st s (state c.step.new.self) ran _ _ _ _ (commit c.is_full.new.machine) c.step.ensures
    c.is_full.ensures.state c.is_full.ensures.commit in
    record {
      lining = line_commits _ _ _ _ _ _ (state c.args.machine.now) st ran new c.lines.from c.lines.count s
          (c.from-from.result + 1) 0 _ _ _ _ _ _ inv.lining (sym c.next_ready.ensures ∙ c.in-Some.is)
          step (ap (λ (n : ℕ). n + 1) at) refl c.in-None.ensures.makes none;
      few = omega arith;
      are = rw none tt;
      room = inl none;
      hold = c.in-None.ensures.spares.lines (line_holds st s ran _ _ _ _ step inv.hold);
      agrees = c.in-None.ensures.agrees;
      faults = c.in-None.ensures.faults ∙ inv.faults;
      disk = c.in-None.ensures.disk ∙ inv.disk;
      is_open = c.in-None.ensures.is_open ∙ inv.is_open;
      nowhere = λ none. (c.in-None.ensures.nowhere (inv.nowhere none)).1;
    }

-- The commit can't be logged.

pub returns-in-Some-commit-clause-runs : goal.returns-in-Some-commit-clause-runs
returns-in-Some-commit-clause-runs g c =
    let state = g.M.Machine.state in
    let st = state c.lines.machine in
    let s = c.in-Some.id in
    let ran = state c.is_full.new.machine in
    let step = line_still st s (state c.step.new.self) ran _ _ _ _ (g.M.Machine.commit c.is_full.new.machine)
    c.step.ensures c.is_full.ensures.state c.is_full.ensures.commit in
    line_stops c.in-Some-commit.served _ _ _ _ _ _ (state c.args.machine.now) st ran (state c.commit.new.machine)
    c.lines.from c.lines.count s _ _ _ _ _ _ c.lines.invariant.lining (sym c.next_ready.ensures ∙ c.in-Some.is) step
    c.in-Some-commit.ensures.makes

pub returns-in-Some-commit-clause-none_left : goal.returns-in-Some-commit-clause-none_left
returns-in-Some-commit-clause-none_left g c e = absurd cc

pub returns-in-Some-commit-clause-lines : goal.returns-in-Some-commit-clause-lines
returns-in-Some-commit-clause-lines g c e = absurd cc

pub returns-in-Some-commit-clause-hold : goal.returns-in-Some-commit-clause-hold
returns-in-Some-commit-clause-hold g c =
    let state = g.M.Machine.state in
    let st = state c.lines.machine in
    let s = c.in-Some.id in
    let ran = state c.is_full.new.machine in
    let step = line_still st s (state c.step.new.self) ran _ _ _ _ (g.M.Machine.commit c.is_full.new.machine)
    c.step.ensures c.is_full.ensures.state c.is_full.ensures.commit in
    c.in-Some-commit.ensures.spares.lines (line_holds st s ran _ _ _ _ step c.lines.invariant.hold)

pub returns-in-Some-commit-clause-disk : goal.returns-in-Some-commit-clause-disk
returns-in-Some-commit-clause-disk g c = disk_faults (Some c.in-Some-commit.served) _ _ _ c.lines.invariant.disk
    c.in-Some-commit.ensures.disk

pub returns-in-Some-commit-clause-nowhere : goal.returns-in-Some-commit-clause-nowhere
returns-in-Some-commit-clause-nowhere g c none = c.in-Some-commit.ensures.nowhere (c.lines.invariant.nowhere none)

-- None is left.

pub returns-clause-runs : goal.returns-clause-runs
returns-clause-runs g c =
    let state = g.M.Machine.state in
    let none : c.next_ready.result ≡ None = search rules in
    lines_done _ _ _ _ (state c.args.machine.now) (state c.lines.machine) c.lines.from c.lines.count _ _ _
    c.lines.invariant.lining (sym c.next_ready.ensures ∙ none)

pub returns-clause-none_left : goal.returns-clause-none_left
returns-clause-none_left g c e =
    let none : c.next_ready.result ≡ None = search rules in
    next_none (g.M.Machine.state c.lines.machine) c.lines.from (sym c.next_ready.ensures ∙ none)

pub returns-clause-lines : goal.returns-clause-lines
returns-clause-lines g c e = c.lines.invariant.are

pub returns-clause-nowhere : goal.returns-clause-nowhere
returns-clause-nowhere g c none = (refl, c.lines.invariant.nowhere none)
