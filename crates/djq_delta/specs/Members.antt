-- The delta of a union, from those of its members.
use Rattle.std.specs.Prelude.{ℕ, List, Bool, false, ◌≡◌, ◌<◌, ◌⊎◌, Any, Contains, length, slice_index_or}
use Rattle.djq_delta.specs.Lines.{SignedLine, reversed}
use Rattle.djq_delta.specs.Delta.{DeltaSeen}

-- A member allows a line: its delta doesn't have the opposite, and has the line itself unless the
-- answer isn't the member's now.
abbrev pub MemberAllows : SignedLine → DeltaSeen → Bool → Type 0
MemberAllows l d has = (Contains d.lines (reversed l) → ⊥) × (Contains d.lines l ⊎ (has ≡ false))

-- What is reported of a union: a line that the delta of a member has, and that all members allow.
pub record IsReportedLine (deltas : List DeltaSeen) (have : List Bool) (l : SignedLine) : Type 0 where
  pub some : Any (λ d. Contains d.lines l) deltas
  pub all : (k : ℕ) (d : DeltaSeen) → k < length deltas → MemberAllows l (slice_index_or deltas k d) (slice_index_or have k false)
