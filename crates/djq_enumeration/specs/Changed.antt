-- The answers that an update of one leaf changes.
use Rattle.std.specs.Prelude.{ℕ, ◌<◌, List}
use Rattle.djq_index.specs.Table.{Table}
use Rattle.djq_index.specs.Entries.{count_of, marks}
use Rattle.djq_reduct.specs.Tables.{entries_at}
use Rattle.djq_reduct.specs.Reducts.{Reducts}
use Rattle.djq_reduct.specs.Marks.{path_at}
use Rattle.djq_reduct.specs.Answers.{IsAnswerOf, on_node}

-- the tuple u of the node j is marked
abbrev pub IsMarkedAt : List Table → ℕ → List ℕ → Type 0
IsMarkedAt ts j u = 0 < count_of (marks (entries_at ts j)) u

-- the node at which the path from the leaf a enters `out`
abbrev pub entry_node : Reducts → ℕ → ℕ
entry_node r a = path_at r.tree.nodes a r.tree.second_stage

-- an answer whose projection is marked there
pub record IsChanged (r : Reducts) (a : ℕ) (b : List ℕ) : Type 0 where
  pub answer : IsAnswerOf r b
  pub marked : IsMarkedAt r.tables (entry_node r a) (on_node r.tree (entry_node r a) b)

-- an answer of the one and not of the other
pub record IsGained (big small : Reducts) (b : List ℕ) : Type 0 where
  pub is : IsAnswerOf big b
  pub was_none : IsAnswerOf small b → ⊥
