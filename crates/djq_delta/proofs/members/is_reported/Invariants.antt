use Rattle.std.proofs.Common.{◌≡◌, ◌<◌, ℕ, true, false}
use Rattle.std.specs.List.{Any, Contains}
use Rattle.std.proofs.Math.ListN.{get_or}
use Rattle.djq_delta.specs.Delta.{DeltaSeen}
use Rattle.djq_delta.specs.Members.{MemberAllows}
use Rattle.djq_delta.proofs.Alone.{signed}
use Rattle.djq_delta.proofs.members.is_reported.Given as goal

-- each member so far allows the line, and whether one of them has it is known
abbrev pub invariant-loop-index : goal.invariant-loop-index
invariant-loop-index l = record {
  some : l.found ≡ true → Any (λ d. Contains d.lines (signed l.came l.cells)) l.deltas;
  none : l.found ≡ false → (k : ℕ) (d : DeltaSeen) → k < l.index → Contains (get_or l.deltas k d).lines (signed l.came l.cells) → ⊥;
  all : (k : ℕ) (d : DeltaSeen) → k < l.index → MemberAllows (signed l.came l.cells) (get_or l.deltas k d) (get_or l.have k false);
}
