-- How much a store has.
use Rattle.std.specs.Prelude.{ℕ, List, length, sum_by}
use Rattle.djq_model.specs.declared.relation.Relation.{Relation}
use Rattle.djq_model.specs.Data.{tuples_in}

-- how many different rows relations have together
abbrev pub rows_together : List Relation → ℕ
rows_together relations = sum_by (λ r. length (tuples_in r)) relations
