-- The log of a change of answers.
use Rattle.std.specs.Prelude.{Bool, List, map}
use Rattle.djq_delta.specs.Lines.{SignedLine}
use Rattle.djq_enumeration.specs.declared.log.Line.{Line}

-- its lines, and whether they were lost
pub record Log : Type 0 where
  pub lines : List Line
  pub lost : Bool

-- a line by its sign and the cells of its answer
abbrev pub signed_line : Line → SignedLine
signed_line l = record { came = l.came; cells = l.answer }

abbrev pub signed_lines : List Line → List SignedLine
signed_lines lines = map signed_line lines
