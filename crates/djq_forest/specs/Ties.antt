-- The ties of an edge as they lie in memory: each slot's neighbours in its list, and the first slot of each list.
use Rattle.std.specs.Prelude.{◌≡◌, ⊤, ℕ, ◌<◌, ◌≤◌, List, [], ◌∷◌, map, length, slice_index_or, slice_set}
use Rattle.std.specs.Prelude.{Option, Some, None}
use Rattle.djq_arena.specs.declared.chain.Pair.{Pair}
use Rattle.djq_arena.specs.declared.link.TheConstants.{SLOTS}
use Rattle.djq_arena.specs.Chains.{Linked, AreDistinctSlots, AreBelow, first_of, trail, set_prev}
use Rattle.djq_forest.specs.declared.ties.Tie.{Tie}

-- the tie of a slot that is in no list
abbrev pub no_tie : Tie
no_tie = record { to = 0; beside = record { prev = None; next = None } }

-- the tie of a slot
abbrev pub tie_in : List Tie → ℕ → Tie
tie_in ts x = slice_index_or ts x no_tie

-- the first slot of the list of slot y, if there is one
abbrev pub head_in : List (Option ℕ) → ℕ → Option ℕ
head_in heads y = slice_index_or heads y None

-- the slots that slots are tied to
unfoldable pub tos : List Tie → List ℕ
tos ts = map (λ t. t.to) ts

-- the neighbours of each slot in its list
unfoldable pub pairs : List Tie → List Pair
pairs ts = map (λ t. t.beside) ts

-- the list from a slot on; it has no more slots than there are
unfoldable pub list_from : List Tie → Option ℕ → List ℕ
list_from ts head = trail (length ts) (pairs ts) head

-- the lists that begin at these slots
unfoldable pub lists_in : List Tie → List (Option ℕ) → List (List ℕ)
lists_in ts heads = map (list_from ts) heads

-- another neighbour of a slot before it, if there is a slot
abbrev pub prev_set : Option ℕ → Option ℕ → List Tie → List Tie
prev_set None to ts = ts
prev_set (Some i) to ts = slice_set ts i
    (record { to = (tie_in ts i).to; beside = record { prev = to; next = (tie_in ts i).beside.next } })

-- another neighbour of a slot after it, if there is a slot
abbrev pub next_set : Option ℕ → Option ℕ → List Tie → List Tie
next_set None to ts = ts
next_set (Some i) to ts = slice_set ts i
    (record { to = (tie_in ts i).to; beside = record { prev = (tie_in ts i).beside.prev; next = to } })

-- both neighbours of a slot
abbrev pub beside_set : ℕ → Pair → List Tie → List Tie
beside_set i p ts = slice_set ts i (record { to = (tie_in ts i).to; beside = p })

-- another slot that a slot is tied to
abbrev pub to_set : ℕ → ℕ → List Tie → List Tie
to_set i to ts = slice_set ts i (record { to = to; beside = (tie_in ts i).beside })

-- each slot of the list is tied to y
unfoldable pub AreTiedTo : List Tie → ℕ → List ℕ → Type 0
AreTiedTo ts y [] = ⊤
AreTiedTo ts y (x ∷ xs) = ((tie_in ts x).to ≡ y) × AreTiedTo ts y xs

-- the list of slot y begins at `head` and is linked in this order; its slots are tied to y
pub record IsTieList (ts : List Tie) (y : ℕ) (head : Option ℕ) (xs : List ℕ) : Type 0 where
  pub first : head ≡ first_of xs
  pub linked : Linked (pairs ts) None xs None
  pub once : AreDistinctSlots xs
  pub below : AreBelow (length ts) xs
  pub tied : AreTiedTo ts y xs

-- these are the lists, one from each head
pub record AreLinked (ts : List Tie) (heads : List (Option ℕ)) (lists : List (List ℕ)) : Type 0 where
  pub long : length lists ≡ length heads
  pub each : (y : ℕ) → y < length heads → IsTieList ts y (head_in heads y) (slice_index_or lists y [])

-- what holds in memory: the links from each head are a list
pub record TiesAreSound (ts : List Tie) (heads : List (Option ℕ)) : Type 0 where
  pub linked : AreLinked ts heads (lists_in ts heads)
  pub few : length ts ≤ SLOTS

-- the neighbours of the slots once slot x precedes the first one of a list
unfoldable pub fronted : Option ℕ → ℕ → List Pair → List Pair
fronted first x links = set_prev first (Some x) (slice_set links x (record { prev = None; next = first }))
