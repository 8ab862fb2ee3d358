-- A listing walks the levels of a tree from the highest one down. At each level it chooses a
-- tuple from a menu, which is known by the level and by the cells of its label, and these were
-- chosen above.
use Rattle.std.specs.Prelude.{
  ◌≡◌,
  ⊤,
  ℕ,
  ◌≤◌,
  Bool,
  true,
  cond,
  List,
  [],
  ◌∷◌,
  ◌++◌,
  length,
  replicate,
  flat_map,
}
use Rattle.djq_index.specs.Table.{IsOccupied}
use Rattle.djq_tree.specs.Tree.{Tree, node_at, has_child}
use Rattle.djq_tree.specs.Levels.{levels, levels_below}
use Rattle.djq_reduct.specs.Tables.{entries_at}
use Rattle.djq_reduct.specs.Reducts.{Reducts}
use Rattle.djq_enumeration.specs.declared.places.Choice.{Choice}
use Rattle.djq_enumeration.specs.declared.cursor.State.{State}
use Rattle.djq_enumeration.specs.declared.cursor.State.TheVariants.{Start, At, End}
use Rattle.djq_reduct.specs.Answers.{on_node}
use Rattle.djq_enumeration.specs.Menus.{has_tuple, tuples_ahead, TuplesOnce, IsFirstTuple}
use Rattle.djq_enumeration.specs.Levels.{IsLevel, IsNextLevel, source, tuple_at, group_at, step}

-- the tuples to choose from, by the level and the cells of its label
abbrev pub Menu : Type 0
Menu = ℕ → List ℕ → List (List ℕ)

-- the menu of a level, if the answer is known so far
abbrev pub menu_at : Tree → Menu → ℕ → List ℕ → List (List ℕ)
menu_at t menu k s = menu k (on_node t k s)

-- the tuple that a choice has
unfoldable pub chosen : Reducts → Choice → List ℕ
chosen r c = tuple_at (entries_at r.tables (source r.tree c.level)) c.place

-- the answers that begin as s, through these levels
abbrev pub leaves : Tree → Menu → List ℕ → List ℕ → List (List ℕ)
leaves t menu [] s = s ∷ []
leaves t menu (k ∷ ks) s = flat_map (λ u. leaves t menu ks (step t k s u)) (menu_at t menu k s)

-- the answer once all of these choices are written
abbrev pub here : Reducts → List ℕ → List Choice → List ℕ
here r s [] = s
here r s (c ∷ cs) = here r (step r.tree c.level s (chosen r c)) cs

-- the answers ahead of these choices
abbrev pub answers_ahead : Reducts → Menu → List ℕ → List Choice → List (List ℕ)
answers_ahead r menu s [] = []
answers_ahead r menu s (c ∷ cs) =
    flat_map (λ u. leaves r.tree menu (levels_below r.tree c.level) (step r.tree c.level s u))
    (tuples_ahead (menu_at r.tree menu c.level s) (chosen r c))
    ++ answers_ahead r menu (step r.tree c.level s (chosen r c)) cs

-- the number below which the levels have no choice yet
abbrev pub reached_level : ℕ → List Choice → ℕ
reached_level n [] = n
reached_level n (c ∷ cs) = reached_level c.level cs

-- these choices are of the levels below n: each is a live place, whose tuple is on the menu
abbrev pub GoesThrough : Reducts → Menu → ℕ → List ℕ → List Choice → Type 0
GoesThrough r menu n s [] = ⊤
GoesThrough r menu n s (c ∷ cs) =
    IsNextLevel r.tree n c.level
    × IsOccupied (entries_at r.tables (source r.tree c.level)) c.place
    × (has_tuple (menu_at r.tree menu c.level s) (chosen r c) ≡ true)
    × GoesThrough r menu c.level (step r.tree c.level s (chosen r c)) cs

-- no menu is empty, whatever is chosen above it
abbrev pub MenusAreOpen : Tree → Menu → List ℕ → List ℕ → Type 0
MenusAreOpen t menu [] s = ⊤
MenusAreOpen t menu (k ∷ ks) s = (menu_at t menu k s ≡ [] → ⊥)
    × ((u : List ℕ) → has_tuple (menu_at t menu k s) u ≡ true → MenusAreOpen t menu ks (step t k s u))

-- an answer of which nothing is known
abbrev pub blank : Tree → List ℕ
blank t = replicate (length t.head) 0

-- the answer that choices from the root down make
abbrev pub made_by : Reducts → List Choice → List ℕ
made_by r cs = here r (blank r.tree) cs

-- the answers ahead of the one that choices from the root down make
abbrev pub ahead_of : Reducts → Menu → List Choice → List (List ℕ)
ahead_of r menu cs = answers_ahead r menu (blank r.tree) cs

-- all answers of the menus
abbrev pub menu_answers : Tree → Menu → List (List ℕ)
menu_answers t menu = leaves t menu (levels t) (blank t)

-- the choices are of the levels from the root down, as far as they reach
abbrev pub Descends : Reducts → Menu → List Choice → Type 0
Descends r menu cs = GoesThrough r menu (length r.tree.nodes) (blank r.tree) cs

-- the choices reach the end: no level is left below them
abbrev pub IsComplete : Reducts → List Choice → Type 0
IsComplete r cs = levels_below r.tree (reached_level (length r.tree.nodes) cs) ≡ []

-- the choice has the first of these tuples, at a live place
pub record IsFirstAt (r : Reducts) (us : List (List ℕ)) (c : Choice) : Type 0 where
  pub live : IsOccupied (entries_at r.tables (source r.tree c.level)) c.place
  pub first : IsFirstTuple us (chosen r c)

-- the choice is one of a level, at a live place
pub record IsAlive (r : Reducts) (c : Choice) : Type 0 where
  pub level : IsLevel r.tree c.level
  pub live : IsOccupied (entries_at r.tables (source r.tree c.level)) c.place

-- two answers have the same projections on the children of the nodes from k on
pub record ProjectAlike (t : Tree) (k : ℕ) (s a : List ℕ) : Type 0 where
  pub below : (i j : ℕ) → k ≤ i → has_child (node_at t.nodes i) j ≡ true
      → on_node t j s ≡ on_node t j a

-- the choices are of the levels from the root down, and the answer is what they make as far as they
-- reach; whatever cells it has elsewhere
pub record ChoicesStand (r : Reducts) (menu : Menu) (cs : List Choice) (a : List ℕ) : Type 0 where
  pub follows : Descends r menu cs
  pub wide : length a ≡ length r.tree.head
  pub alike : ProjectAlike r.tree (reached_level (length r.tree.nodes) cs) a (made_by r cs)

-- the menus are parts of the levels' groups
abbrev pub AreGroupMenus : Reducts → Menu → Type 0
AreGroupMenus r menu = (k : ℕ) (w u : List ℕ) → has_tuple (menu k w) u ≡ true
    → has_tuple (group_at r k w) u ≡ true

-- what is known of menus: they are parts of groups, none has a tuple twice, and if the listing may
-- be entered none is empty
pub record IsClear (r : Reducts) (menu : Menu) (entered : Bool) : Type 0 where
  pub group : AreGroupMenus r menu
  pub once : (k : ℕ) (w : List ℕ) → TuplesOnce (menu k w)
  pub filled : entered ≡ true → MenusAreOpen r.tree menu (levels r.tree) (blank r.tree)

-- all answers, in the order in which they are given
abbrev pub all_given : Reducts → Menu → Bool → List (List ℕ)
all_given r menu entered = cond entered (menu_answers r.tree menu) []

-- after these answers there is a next one
pub record HasNext (given all : List (List ℕ)) : Type 0 where
  pub next : List ℕ
  pub rest : List (List ℕ)
  pub is : all ≡ given ++ next ∷ rest

-- what was given in this state, with these choices
abbrev pub walk_given : Reducts → Menu → Bool → State → List Choice → List (List ℕ)
walk_given r menu entered Start cs = []
walk_given r menu entered At cs = ahead_of r menu cs ++ made_by r cs ∷ []
walk_given r menu entered End cs = all_given r menu entered

-- the state, the choices and the answer fit: there is no choice at the start, and later one at each
-- level, and the answer is what they make
abbrev pub FitsBy : Reducts → Menu → Bool → State → List Choice → List ℕ → Type 0
FitsBy r menu entered Start cs a = cs ≡ []
FitsBy r menu entered At cs a =
    (entered ≡ true) × Descends r menu cs × IsComplete r cs × (a ≡ made_by r cs)
FitsBy r menu entered End cs a = ⊤
