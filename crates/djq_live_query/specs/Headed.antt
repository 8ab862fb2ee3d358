-- What the places of a query's head show.
use Rattle.std.specs.Prelude.{ℕ, List, length, map}
use Rattle.djq_hypergraph.specs.Hypergraph.{set_below}
use Rattle.djq_reduct.specs.Columns.{column}
use Rattle.djq_query.specs.declared.numbered.Variable.{Variable}
use Rattle.djq_query.specs.Numbered.{Numbered}
use Rattle.djq_live_query.specs.declared.headed.HeadCell.{HeadCell}
use Rattle.djq_binder.specs.Asked.{column_of}

-- the type of a variable's values, and its place among the variables F
abbrev pub head_cell : List Variable → List ℕ → ℕ → HeadCell
head_cell variables F x = record { column = column_of variables x; at = column F x }

-- the head's variables, each once, in rising order
abbrev pub head_set : Numbered → List ℕ
head_set n = set_below (length n.variables) n.head

-- for each place of the head what it shows
abbrev pub head_cells : Numbered → List HeadCell
head_cells n = map (head_cell n.variables (head_set n)) n.head
