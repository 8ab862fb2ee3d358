use Rattle.std.proofs.Common.{◌≡◌, ◌<◌, ℕ}
use Rattle.std.proofs.Math.ListN.{get_or}
use Rattle.djq_delta.proofs.Alone.{signed}
use Rattle.djq_delta.proofs.members.has_line.Given as goal

-- no line so far is the one that is looked for
abbrev pub invariant-loop-index : goal.invariant-loop-index
invariant-loop-index l = (k : ℕ) → k < l.index → get_or l.delta.lines k (signed l.came l.cells) ≡ signed l.came l.cells → ⊥
