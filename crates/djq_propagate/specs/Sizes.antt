-- How many tuples there are.
use Rattle.std.specs.Prelude.{ℕ, ◌≤◌, List, length}
use Rattle.std.specs.List.{sum_by}
use Rattle.djq_index.specs.Table.{Table}
use Rattle.djq_reduct.specs.Tables.{entries_at}

-- the tuples of all tables together
unfoldable pub size : List Table → ℕ
size ts = sum_by (λ t. length t.entries) ts

-- no table has more than n tuples
pub record AreAtMost (ts : List Table) (n : ℕ) : Type 0 where
  pub each : (i : ℕ) → length (entries_at ts i) ≤ n
