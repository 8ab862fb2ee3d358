use Rattle.std.specs.Prelude.{ℕ, ◌==◌, List, find}
use Rattle.std.specs.Option.{option_map_or}
use Rattle.djq_io.specs.Hub.{Ids}

-- How many faults a session has met.
pub record Count : Type 0 where
  pub id : ℕ
  pub faults : ℕ

-- The ids of a hub's sessions, for how many more it has room, and how many faults each has met.
pub record Places : Type 0 where
  pub ids : Ids
  pub room : ℕ
  pub counts : List Count

-- how many faults the session with this id has met, by these counts
abbrev pub faults_of : List Count → ℕ → ℕ
faults_of counts id = option_map_or (λ c. c.faults) (find (λ c. c.id == id) counts) 0
