-- How the numbers hang together in buckets: the first is of the free ones, the others of the texts by their hashes.
use Rattle.std.specs.Prelude.{◌≡◌, ℕ, zero, suc, ◌+◌, ◌-◌, ◌/◌, ◌<◌, ◌≤◌, List, [], ◌∷◌, length, bit_and}
use Rattle.std.specs.Prelude.{Option, Some, None, ◌⊎◌}
use Rattle.djq_arena.specs.Buckets.{AreBuckets}
use Rattle.djq_arena.specs.declared.link.TheConstants.{SLOTS}
use Rattle.djq_texts.specs.Known.{Known, known_at, IsOneToOne, in_use_from}
use Rattle.djq_texts.specs.Hash.{text_hash}
use Rattle.djq_texts.specs.declared.store.TheConstants.{FIRST_BUCKETS}

-- the bucket of a hash, of so many
unfoldable pub text_bucket : ℕ → ℕ → ℕ
text_bucket buckets hash = bit_and hash (buckets - 2) + 1

-- the bucket that a number falls into by what has it
abbrev pub place : ℕ → Option Known → ℕ
place buckets None = 0
place buckets (Some k) = text_bucket buckets (text_hash k.bytes)

-- the bucket of each number
abbrev pub falls : ℕ → List (Option Known) → ℕ → ℕ
falls buckets known n = place buckets (known_at known n)

-- all numbers below n
unfoldable pub numbers : ℕ → List ℕ
numbers zero = []
numbers (suc n) = n ∷ numbers n

-- each number is in the chain of its bucket
pub record IsTextIndex (known : List (Option Known)) (links heads : List (Option ℕ)) : Type 0 where
  pub buckets : AreBuckets (falls (length heads) known) links heads (numbers (length known))
  pub linked : length links ≡ length known
  pub some : 1 < length heads
  pub few : length known ≤ SLOTS

-- the first upper number for so many buckets: fewer are enough if no text has an upper number
abbrev pub quarter : ℕ → ℕ
quarter buckets = (buckets - 1) / 4

-- there are as few buckets as at first, or some texts have an upper number
abbrev pub AreFewBuckets : ℕ → ℕ → Type 0
AreFewBuckets buckets high = (buckets ≤ FIRST_BUCKETS) ⊎ (0 < high)

-- the texts in use with their index, how many there are, and how many of them have an upper number
pub record AreTexts (known : List (Option Known)) (links heads : List (Option ℕ)) (count upper : ℕ) : Type 0 where
  pub index : IsTextIndex known links heads
  pub one : IsOneToOne known
  pub used : count ≡ in_use_from 0 known
  pub high : upper ≡ in_use_from (quarter (length heads)) known
  pub room : length known < length heads
  pub tight : AreFewBuckets (length heads) upper
