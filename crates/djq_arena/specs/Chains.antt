-- Doubly linked chains over slots: for each slot the one before it and the one after it.
use Rattle.std.specs.Prelude.{◌≡◌, ◌≢◌, ⊤, ℕ, zero, suc, ◌<◌, List, [], ◌∷◌, slice_index_or}
use Rattle.std.specs.Prelude.{slice_set, Option, Some, None}
use Rattle.djq_arena.specs.declared.chain.Pair.{Pair}

-- the neighbours of a slot
abbrev pub pair_at : List Pair → ℕ → Pair
pair_at links i = slice_index_or links i (record { prev = None; next = None })

-- the first of a list, or what follows the list
abbrev pub first_or : List ℕ → Option ℕ → Option ℕ
first_or [] o = o
first_or (x ∷ xs) o = Some x

-- the last of a list, or what precedes the list
abbrev pub last_from : Option ℕ → List ℕ → Option ℕ
last_from o [] = o
last_from o (x ∷ xs) = last_from (Some x) xs

-- the first of a list; none if it is empty
abbrev pub first_of : List ℕ → Option ℕ
first_of xs = first_or xs None

-- the last of a list; none if it is empty
abbrev pub last_of : List ℕ → Option ℕ
last_of xs = last_from None xs

-- the list is chained in this order, between `before` and `after`
unfoldable pub Linked : List Pair → Option ℕ → List ℕ → Option ℕ → Type 0
Linked links before [] after = ⊤
Linked links before (x ∷ xs) after = ((pair_at links x).prev ≡ before) × ((pair_at links x).next ≡ first_or xs after)
    × Linked links (Some x) xs after

-- the list is chained in this order by the links to the next ones, whatever the others are
unfoldable pub Onward : List Pair → List ℕ → Type 0
Onward links [] = ⊤
Onward links (x ∷ xs) = ((pair_at links x).next ≡ first_of xs) × Onward links xs

-- x isn't in the list
unfoldable pub IsOut : ℕ → List ℕ → Type 0
IsOut i [] = ⊤
IsOut i (x ∷ xs) = (x ≢ i) × IsOut i xs

-- none occurs twice in the list
unfoldable pub AreDistinctSlots : List ℕ → Type 0
AreDistinctSlots [] = ⊤
AreDistinctSlots (x ∷ xs) = IsOut x xs × AreDistinctSlots xs

-- each of the list is below n
unfoldable pub AreBelow : ℕ → List ℕ → Type 0
AreBelow n [] = ⊤
AreBelow n (x ∷ xs) = (x < n) × AreBelow n xs

-- another link of a slot, if there is a slot
abbrev pub set_prev : Option ℕ → Option ℕ → List Pair → List Pair
set_prev None to links = links
set_prev (Some i) to links = slice_set links i (record { prev = to; next = (pair_at links i).next })

-- another link of a slot to the next one, if there is a slot
abbrev pub set_next : Option ℕ → Option ℕ → List Pair → List Pair
set_next None to links = links
set_next (Some i) to links = slice_set links i (record { prev = (pair_at links i).prev; next = to })

-- slot i is appended after the last one
unfoldable pub entered : Option ℕ → ℕ → List Pair → List Pair
entered last i links = slice_set (set_next last (Some i) links) i (record { prev = last; next = None })

-- slot i, with these neighbours, is removed
unfoldable pub chain_without : Pair → List Pair → List Pair
chain_without p links = set_prev p.next p.prev (set_next p.prev p.next links)

-- a slot, if there is one, is below n
abbrev pub IsSlotBelow : ℕ → Option ℕ → Type 0
IsSlotBelow n None = ⊤
IsSlotBelow n (Some i) = i < n

-- a slot, if there is one, is another than x
abbrev pub Differs : Option ℕ → ℕ → Type 0
Differs None x = ⊤
Differs (Some i) x = i ≢ x

-- a slot, if there is one, isn't in the list
unfoldable pub Avoids : Option ℕ → List ℕ → Type 0
Avoids o [] = ⊤
Avoids o (x ∷ xs) = Differs o x × Avoids o xs

-- none of the first list is in the second
unfoldable pub AreOut : List ℕ → List ℕ → Type 0
AreOut [] ys = ⊤
AreOut (x ∷ xs) ys = IsOut x ys × AreOut xs ys

-- two arrays have the same neighbours for each slot of the list
unfoldable pub Agree : List Pair → List Pair → List ℕ → Type 0
Agree ls ms [] = ⊤
Agree ls ms (x ∷ xs) = (pair_at ms x ≡ pair_at ls x) × Agree ls ms xs

-- the slots from one on, n at most, in the order of the chain
unfoldable pub trail : ℕ → List Pair → Option ℕ → List ℕ
trail zero links o = []
trail (suc n) links None = []
trail (suc n) links (Some i) = i ∷ trail n links (pair_at links i).next
