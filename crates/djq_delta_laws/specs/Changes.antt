-- Lines of a delta, read as changes of answers.
use Rattle.std.specs.Prelude.{ℕ, List, ◌≡◌, ◌++◌, Contains, map, if◌then◌else◌}
use Rattle.djq_model.specs.declared.relation.Relation.{Relation}
use Rattle.djq_model.specs.Data.{Tuple}
use Rattle.djq_model.specs.Listed.{Listed, AnswersOf}
use Rattle.djq_protocol.specs.declared.answer.Sign.TheVariants.{Came, Went}
use Rattle.djq_store_spec.specs.Delta.{Change, IsDelta}
use Rattle.djq_answer_laws.specs.Growing.{HaveRows}
use Rattle.djq_answer_laws.specs.Net.{CancelsOut}
use Rattle.djq_delta.specs.Lines.{SignedLine, SettlesTo}

-- the change of a line, if its cells represent this tuple
abbrev pub line_change : (List ℕ → Tuple) → SignedLine → Change
line_change tuple l = record { sign = if l.came then Came else Went; answer = tuple l.cells }

-- Of these lines different cells represent different tuples.
abbrev pub AreToldApart : (List ℕ → Tuple) → List SignedLine → Type 0
AreToldApart tuple lines = (k l : SignedLine) → Contains lines k → Contains lines l
    → tuple k.cells ≡ tuple l.cells → k.cells ≡ l.cells

abbrev pub SettledLinesCancelOut : Type 0
SettledLinesCancelOut = (tuple : List ℕ → Tuple) (old new : List SignedLine) → AreToldApart tuple old → SettlesTo old new
    → CancelsOut (map (line_change tuple) old) (map (line_change tuple) new)

-- Rows are inserted, and then rows are deleted. The lines of the answers that were added, and after
-- them of those that were removed, are the delta of it all once they are settled.
abbrev pub SettledLinesAreDelta : Type 0
SettledLinesAreDelta = (before between after : List Relation) (q : Listed) → HaveRows before between → HaveRows after between
    → (tuple : List ℕ → Tuple) (come gone new : List SignedLine)
    → IsDelta (AnswersOf before q) (AnswersOf between q) (map (line_change tuple) come)
    → IsDelta (AnswersOf between q) (AnswersOf after q) (map (line_change tuple) gone)
    → AreToldApart tuple (come ++ gone) → SettlesTo (come ++ gone) new
    → IsDelta (AnswersOf before q) (AnswersOf after q) (map (line_change tuple) new)
