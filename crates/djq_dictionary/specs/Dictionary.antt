-- The parts of a dictionary.
use Rattle.std.specs.Prelude.{◌≡◌, ℕ, ◌≤◌, List, length, map}
use Rattle.djq_dictionary.specs.Hash.{hash_of}
use Rattle.djq_dictionary.specs.Known.{AllDifferent}
use Rattle.djq_dictionary.specs.declared.dict.TheConstants.{MOST_TEXTS}

-- texts and an index of their hashes are those of a dictionary
pub record IsDictionary (texts : List (List ℕ)) (hashes : List ℕ) : Type 0 where
  pub hashed : hashes ≡ map hash_of texts
  pub different : AllDifferent texts
  pub few : length texts ≤ MOST_TEXTS
