-- What an index of hashes is.
use Rattle.std.specs.Prelude.{ℕ, ◌<◌, ◌≤◌, List, length}
use Rattle.djq_dictionary.specs.declared.chain.Link.{Link}
use Rattle.djq_dictionary.specs.Chains.{IsChained, hashes_of, nexts_of}
use Rattle.djq_dictionary.specs.declared.dict.TheConstants.{MOST_TEXTS}

-- what contracts see of an index
pub record Hashes : Type 0 where
  -- by number
  pub hashes : List ℕ
  -- for how many more there is room
  pub places : ℕ

-- links and heads are those of an index
pub record IsIndex (links : List Link) (heads : List ℕ) : Type 0 where
  pub some : 0 < length heads
  pub few : length links ≤ MOST_TEXTS
  pub chained : IsChained (hashes_of links) (nexts_of links) heads (length links)
