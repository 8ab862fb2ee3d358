use Rattle.std.proofs.Common.{◌≡◌, ◌-◌, ◌≤◌, length, take}
use Rattle.djq_journal.specs.Appending.{gate_after}
use Rattle.djq_journal.specs.declared.limits.TheConstants.{LAST_GATE}
use Rattle.djq_journal.proofs.appending.end_of.Given as goal

-- The place so far is behind the lines so far, of which each takes at least one.
abbrev pub invariant-loop-line : goal.invariant-loop-line
invariant-loop-line g l = record {
  end : l.end ≡ gate_after l.gate (take l.i (g.G.Group.lines l.group));
  within : l.end ≤ LAST_GATE;
  few : l.i ≤ l.end;
}

abbrev pub decreases-loop-line : goal.decreases-loop-line
decreases-loop-line g l = length (g.G.Group.lines l.group) - l.i
