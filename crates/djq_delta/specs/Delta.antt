-- A delta as contracts see it, and how its lines are packed.
use Rattle.std.specs.Prelude.{ℕ, List, take, drop, map}
use Rattle.djq_delta.specs.declared.delta.DeltaStatus.{DeltaStatus}
use Rattle.djq_delta.specs.declared.place.Place.{Place}
use Rattle.djq_delta.specs.Lines.{SignedLine}

-- the delta of a query during one change of rows
pub record DeltaSeen : Type 0 where
  -- the cells of an answer
  pub width : ℕ
  pub lines : List SignedLine
  pub status : DeltaStatus
  -- the lines appended since it was last cleared
  pub pushed : ℕ
  -- the words that it has memory for
  pub capacity : ℕ

-- the line at a place: its cells are so many from there on
abbrev pub placed_line : ℕ → List ℕ → Place → SignedLine
placed_line width cells p = record { came = p.came; cells = take width (drop p.at cells) }

abbrev pub placed_lines : ℕ → List ℕ → List Place → List SignedLine
placed_lines width cells places = map (placed_line width cells) places
