-- The hash of a text.
use Rattle.std.specs.Prelude.{ℕ, List, bit_and}
use Rattle.std.specs.Hash.FoldHasher.{initial, write, finish}

-- the lower half of what the hasher of std computes
unfoldable pub hash_of : List ℕ → ℕ
hash_of text = bit_and (finish (write initial text)) 4294967295
