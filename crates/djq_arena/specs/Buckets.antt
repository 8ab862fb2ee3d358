-- Chains of single links over slots: for each slot the one after it.
use Rattle.std.specs.Prelude.{◌≡◌, ◌≢◌, ℕ, ◌<◌, List, [], ◌∷◌, ◌++◌, length, slice_index_or}
use Rattle.std.specs.Prelude.{slice_set, Option, Some, None}
use Rattle.djq_arena.specs.Chains.{last_of, IsOut, AreDistinctSlots, AreBelow}

-- what the link of a slot, or the head of a bucket, points to
abbrev pub link_at : List (Option ℕ) → ℕ → Option ℕ
link_at links i = slice_index_or links i None

-- the list is chained in this order, from this slot on
unfoldable pub Chained : List (Option ℕ) → Option ℕ → List ℕ → Type 0
Chained links at [] = at ≡ None
Chained links at (x ∷ xs) = (at ≡ Some x) × Chained links (link_at links x) xs

-- the chain from a head on has those slots of the list that fall into bucket k, and no others, each once,
-- in some order
pub record IsBucket (falls : ℕ → ℕ) (k : ℕ) (links : List (Option ℕ)) (head : Option ℕ) (xs : List ℕ) : Type 0 where
  pub slots : List ℕ
  pub chained : Chained links head slots
  pub different : AreDistinctSlots slots
  pub all : (i : ℕ) → falls i ≡ k → IsOut i slots → IsOut i xs
  pub only : (i : ℕ) → IsOut i xs → IsOut i slots
  pub its : (i : ℕ) → falls i ≢ k → IsOut i slots

-- each bucket's chain has its slots of the list, and no others
pub record AreBuckets (falls : ℕ → ℕ) (links heads : List (Option ℕ)) (xs : List ℕ) : Type 0 where
  pub each : (k : ℕ) → k < length heads → IsBucket falls k links (link_at heads k) xs

-- slot i is in the chain from a head on
pub record StandsInChain (links : List (Option ℕ)) (head : Option ℕ) (i : ℕ) : Type 0 where
  pub front : List ℕ
  pub back : List ℕ
  pub chained : Chained links head (front ++ i ∷ back)
  pub different : AreDistinctSlots (front ++ i ∷ back)
  pub below : AreBelow (length links) (front ++ i ∷ back)
  pub short : length front < length links

-- slot i is there, after this one, or first
pub record IsBehind (links : List (Option ℕ)) (head : Option ℕ) (i : ℕ) (before : Option ℕ) : Type 0 where
  pub place : StandsInChain links head i
  pub is : before ≡ last_of place.front

-- the links without a slot that was after `before`
abbrev pub relinked : Option ℕ → Option ℕ → List (Option ℕ) → List (Option ℕ)
relinked None to links = links
relinked (Some i) to links = slice_set links i to

-- the heads then: that of bucket k is another if no slot was before the removed one
abbrev pub reheaded : Option ℕ → ℕ → Option ℕ → List (Option ℕ) → List (Option ℕ)
reheaded None k to heads = slice_set heads k to
reheaded (Some i) k to heads = heads

-- slot i was removed from bucket k
pub record IsUnlisted (links more heads others : List (Option ℕ)) (k i : ℕ) : Type 0 where
  pub before : Option ℕ
  pub behind : IsBehind links (link_at heads k) i before
  pub links_are : more ≡ relinked before (link_at links i) links
  pub heads_are : others ≡ reheaded before k (link_at links i) heads
