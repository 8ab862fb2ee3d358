use Rattle.std.proofs.Common.{◌≡◌, ◌+◌, ◌-◌, ◌≤◌, length, take}
use Rattle.std.specs.List.{AllByRecursion}
use Rattle.djq_log_format.specs.Encoding.{measured}
use Rattle.djq_log_format.specs.Format.{IsLogLine, record_body}
use Rattle.djq_log_file.specs.declared.limits.TheConstants.{LAST_LOG_GATE}
use Rattle.djq_log_file.proofs.appending.measure.Given as goal

-- The lines so far are measured, and each takes two places at least.
abbrev pub invariant-loop-line : goal.invariant-loop-line
invariant-loop-line g l = record {
  end : l.end ≡ l.gate + 17 + length (record_body (take l.i (g.G.Group.lines l.group)));
  within : l.end ≤ LAST_LOG_GATE;
  is_measured : l.measure ≡ measured l.digest (take l.i (g.G.Group.lines l.group));
  are_lines : AllByRecursion IsLogLine (take l.i (g.G.Group.lines l.group));
  few : l.i ≤ l.end;
}

abbrev pub decreases-loop-line : goal.decreases-loop-line
decreases-loop-line g l = length (g.G.Group.lines l.group) - l.i
