-- How the links of an index hang together in chains, one for each bucket.
use Rattle.std.specs.Prelude.{◌≡◌, ◌≢◌, ℕ, ◌+◌, ◌-◌, ◌<◌, ◌≤◌, List, length, map, slice_index}
use Rattle.std.specs.Prelude.{bit_and, Option, None, Some}
use Rattle.djq_dictionary.specs.declared.chain.Link.{Link}

-- the hashes of the texts, by number
abbrev pub hashes_of : List Link → List ℕ
hashes_of links = map (λ k. k.hash) links

-- the next number of each one's chain
abbrev pub nexts_of : List Link → List ℕ
nexts_of links = map (λ k. k.next) links

-- the bucket of a hash
abbrev pub bucket_of : ℕ → ℕ → ℕ
bucket_of buckets hash = bit_and hash (buckets - 1)

-- the bucket of the text with a number
abbrev pub bucket_at : ℕ → List ℕ → ℕ → ℕ
bucket_at buckets hashes number = bucket_of buckets (slice_index hashes number)

-- a chain begins with the last text below n that is in a bucket, if there is one: it shows one past its
-- number, and else 0
pub record IsChainHead (buckets : ℕ) (hashes : List ℕ) (bucket n chain : ℕ) : Type 0 where
  pub within : chain ≤ n
  pub here : 0 < chain → bucket_at buckets hashes (chain - 1) ≡ bucket
  pub last : (j : ℕ) → chain ≤ j → j < n → bucket_at buckets hashes j ≢ bucket

-- the texts below n are in chains
pub record IsLinkedBelow (buckets : ℕ) (hashes nexts : List ℕ) (n : ℕ) : Type 0 where
  -- the next of each is the last one before it in the same bucket
  pub each : (i : ℕ) → i < n → IsChainHead buckets hashes (bucket_at buckets hashes i) i (slice_index nexts i)

-- all texts are
abbrev pub IsLinked : ℕ → List ℕ → List ℕ → Type 0
IsLinked buckets hashes nexts = IsLinkedBelow buckets hashes nexts (length hashes)

-- the texts below n are in the chains of their buckets, whose heads are given
pub record IsChained (hashes nexts heads : List ℕ) (n : ℕ) : Type 0 where
  pub headed : (b : ℕ) → b < length heads → IsChainHead (length heads) hashes b n (slice_index heads b)
  pub linked : IsLinkedBelow (length heads) hashes nexts n

-- every chain is of falling numbers
abbrev pub IsFalling : List ℕ → Type 0
IsFalling nexts = (i : ℕ) → i < length nexts → slice_index nexts i ≤ i

-- no text from one number up to below n has the hash
abbrev pub HasNone : List ℕ → ℕ → ℕ → ℕ → Type 0
HasNone hashes hash from n = (j : ℕ) → from ≤ j → j < n → slice_index hashes j ≢ hash

-- the last number below n with a hash, if there is one
abbrev pub IsLastWith : List ℕ → ℕ → ℕ → Option ℕ → Type 0
IsLastWith hashes hash n None = HasNone hashes hash 0 n
IsLastWith hashes hash n (Some m) = (m < n) × (slice_index hashes m ≡ hash) × HasNone hashes hash (m + 1) n
