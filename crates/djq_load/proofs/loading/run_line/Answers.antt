-- What an idle session is fed is its one line, so it may be run; feeding and running leave the session open.
use Rattle.std.proofs.Common.{inl, sym}
use Rattle.djq_load.proofs.IdleSessions.{some_byte, comes_feeds, line_may_run, step_open, step_feeds, step_runs}
use Rattle.djq_load.proofs.loading.run_line.Goals as goal

pub step-requires : goal.step-requires
step-requires g c = record {
  ready = line_may_run _ _ _ _ c.requires.idle c.requires.one c.in-Held.ensures.makes c.in-Held.ensures.answer
      c.clear_commit.ensures.state;
  room = inl c.clear_commit.ensures.commit;
}

pub cause-requires : goal.cause-requires
cause-requires g c = step_open _ _ _ _ _ _ _ c.clear_commit.ensures.state c.step.ensures

pub returns-in-None-clause-runs : goal.returns-in-None-clause-runs
returns-in-None-clause-runs g c = step_runs _ _ _ _ _ _ _ _ _ c.in-Held.ensures.makes c.in-Held.ensures.answer
    c.clear_commit.ensures.state c.step.ensures (sym c.in-None.ensures)

pub returns-in-None-clause-open : goal.returns-in-None-clause-open
returns-in-None-clause-open g c = step_open _ _ _ _ _ _ _ c.clear_commit.ensures.state c.step.ensures

pub returns-in-Some-clause-breaks : goal.returns-in-Some-clause-breaks
returns-in-Some-clause-breaks g c = step_feeds _ _ _ _ _ _ _ _ _ c.requires.idle (some_byte _ c.requires.one)
    c.requires.short c.in-Held.ensures.makes c.in-Held.ensures.answer c.clear_commit.ensures.state c.step.ensures

pub returns-in_default-clause-breaks : goal.returns-in_default-clause-breaks
returns-in_default-clause-breaks g c = comes_feeds _ _ _ _ c.requires.idle (some_byte _ c.requires.one) c.requires.short
    c.in_default.ensures.makes
