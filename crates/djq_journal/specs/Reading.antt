-- What is at a gate's place, as far as its head shows.
use Rattle.std.specs.Prelude.{◌≡◌, ℕ, ◌+◌, ◌/◌, ◌%◌, ◌≤◌, List, ◌∷◌, drop}
use Rattle.djq_io.specs.Faults.{Counted}
use Rattle.djq_journal.specs.Format.{IsEnd, IsBad}
use Rattle.djq_journal.specs.declared.line.Line.{Line}
use Rattle.djq_journal.specs.declared.line.Line.TheVariants.{Got, End, BadLog, Failed as Unread}
use Rattle.djq_journal.specs.declared.reading.Head.{Head}
use Rattle.djq_journal.specs.declared.reading.Head.TheVariants.{Open, Shut, Bad, Failed}
use Rattle.djq_journal.specs.declared.limits.TheConstants.{LINE_BYTES}

-- The head of a place: a gate that isn't open; or an open one and the length of a line; or neither.
abbrev pub IsHead : Head → List ℕ → Type 0
IsHead (Open n) rest = rest ≡ 1 ∷ n / 256 ∷ n % 256 ∷ drop 3 rest
IsHead Shut rest = IsEnd rest
IsHead Bad rest = IsBad rest
IsHead Failed rest = Unit {0}

-- what a head has of its line and its place, shown or not
abbrev pub HeadFits : Head → ℕ → Type 0
HeadFits (Open n) at = (1 ≤ n) × (n ≤ LINE_BYTES) × (at + 3 ≤ 18446744073709551615)
HeadFits Shut at = Unit {0}
HeadFits Bad at = Unit {0}
HeadFits Failed at = Unit {0}

-- The disk's count of faults rises if a head can't be read, and else stays.
abbrev pub CountsHead : Head → ℕ → ℕ → Type 0
CountsHead (Open n) old new = new ≡ old
CountsHead Shut old new = new ≡ old
CountsHead Bad old new = new ≡ old
CountsHead Failed old new = Counted old new

-- the place of a journal after this answer
abbrev pub place_after : ℕ → Line → ℕ
place_after gate (Got n) = gate + (3 + n)
place_after gate End = gate
place_after gate (BadLog at) = gate
place_after gate Unread = gate

-- a line that was read ends at a place that a number names, shown or not
abbrev pub EndsWithin : Line → ℕ → Type 0
EndsWithin (Got n) gate = gate + (3 + n) ≤ 18446744073709551615
EndsWithin End gate = Unit {0}
EndsWithin (BadLog at) gate = Unit {0}
EndsWithin Unread gate = Unit {0}
