-- A live query, as a member of a union: its answers are cells in the order of its head.
use Rattle.std.specs.Prelude.{
  ◌≡◌,
  ◌↔◌,
  ⊤,
  ℕ,
  ◌≤◌,
  Bool,
  true,
  List,
  [],
  ◌∷◌,
  ◌++◌,
  length,
  map,
  All,
  Contains,
  Option,
  None,
  Some,
  IsSomeAnd,
  option_to_list,
  slice_index_or,
}
use Rattle.std.specs.List.{AllByRecursion}
use Rattle.djq_model.specs.declared.relation.ColumnType.{ColumnType}
use Rattle.djq_model.specs.Data.{Bytes, Tuple}
use Rattle.djq_model.specs.Answer.{IsAnswer}
use Rattle.djq_store_spec.specs.Asking.{answer_types}
use Rattle.djq_reduct.specs.Reducts.{Reducts}
use Rattle.djq_reduct.specs.Answers.{IsAnswerOf}
use Rattle.djq_enumeration.specs.declared.cursor.Cursor.{Cursor}
use Rattle.djq_enumeration.specs.Menus.{has_tuple}
use Rattle.djq_enumeration.specs.Levels.{group_at}
use Rattle.djq_enumeration.specs.Walk.{all_given}
use Rattle.djq_enumeration.specs.Given.{has_root, given, Fits}
use Rattle.djq_database.specs.Cells.{StandFor}
use Rattle.djq_database.specs.Catalog.{Catalog}
use Rattle.djq_binder.specs.Asked.{column_of}
use Rattle.djq_live_query.specs.Live.{Live, IsKept, IsKeptSomewhere, IsShowable, values_of}
use Rattle.djq_live_query.specs.Order.{cell_of_variable}

-- the cells of a tuple of the tree, in the head's order
abbrev pub in_head : Live → List ℕ → List ℕ
in_head l u = map (cell_of_variable (l.reducts).tree.head u) (l.numbered).head

-- cells in the head's order, as a tuple of the tree
abbrev pub in_tree : Live → List ℕ → List ℕ
in_tree l t = map (cell_of_variable (l.numbered).head t) (l.reducts).tree.head

-- the types of the cells of its answers, in the head's order
abbrev pub head_types : Live → List ColumnType
head_types l = map (column_of (l.numbered).variables) (l.numbered).head

-- all answers of reducts, in the order in which a cursor gives them
unfoldable pub all_answers : Reducts → List (List ℕ)
all_answers r = all_given r (group_at r) (has_root r)

-- whether these are the cells of an answer, in the head's order
abbrev pub has_cells : Live → List ℕ → Bool
has_cells l t = has_tuple (map (in_head l) (all_answers l.reducts)) t

-- the cells of the answers that a cursor has given, in the head's order
abbrev pub cells_given : Live → Cursor → List (List ℕ)
cells_given l cursor = map (in_head l) (given l.reducts cursor)

-- a cursor fits a query that is maintained over some catalog
abbrev pub FitsKept : Live → Cursor → Type 0
FitsKept l cursor = IsKeptSomewhere l × Fits l.reducts cursor

-- The cells of an answer of the tree, in the head's order, represent the values that it shows.
abbrev pub CellsInHeadStand : Type 0
CellsInHeadStand = (c : Catalog) (l : Live) → IsKept c l → (u : List ℕ) → IsAnswerOf l.reducts u
    → StandFor c.texts (answer_types c.relations l.query) (in_head l u) (values_of c.texts l u)

-- The test of cells that represent a tuple succeeds if and only if the tuple is an answer.
abbrev pub AnswersAreHad : Type 0
AnswersAreHad = (c : Catalog) (l : Live) → IsKept c l → (t : List ℕ) (v : Tuple)
    → StandFor c.texts (answer_types c.relations l.query) t v
    → (has_cells l t ≡ true) ↔ IsAnswer c.relations l.query v

-- Cells with a successful test represent a tuple.
abbrev pub HadCellsStand : Type 0
HadCellsStand = (c : Catalog) (l : Live) → IsKept c l → (t : List ℕ) → has_cells l t ≡ true
    → (v : Tuple) × StandFor c.texts (answer_types c.relations l.query) t v

-- There are cells for each answer.
abbrev pub AnswersHaveCells : Type 0
AnswersHaveCells = (c : Catalog) (l : Live) → IsKept c l → (v : Tuple)
    → IsAnswer c.relations l.query v
    → (t : List ℕ) × StandFor c.texts (answer_types c.relations l.query) t v

-- Of two queries over one catalog, whose answers have the same types, equal cells represent equal
-- values, and different cells different values.
abbrev pub CellsTellValues : Type 0
CellsTellValues = (c : Catalog) (l m : Live)
    → answer_types c.relations l.query ≡ answer_types c.relations m.query
    → (t u : List ℕ) (v w : Tuple) → StandFor c.texts (answer_types c.relations l.query) t v
    → StandFor c.texts (answer_types c.relations m.query) u w → (t ≡ u) ↔ (v ≡ w)

-- Of a live query the types of the answers' cells are those of its answers.
abbrev pub HeadTypesAre : Type 0
HeadTypesAre = (c : Catalog) (l : Live) → IsKept c l
    → head_types l ≡ answer_types c.relations l.query

-- cells in the head's order can be shown, as a tuple of the tree, and show this tuple
pub record IsShownInTree (texts : List Bytes) (l : Live) (t : List ℕ) (v : Tuple) : Type 0 where
  pub showable : IsShowable texts l (in_tree l t)
  pub shows : values_of texts l (in_tree l t) ≡ v

-- Cells of these types that represent a tuple show it, answer or not.
abbrev pub CellsInTreeStand : Type 0
CellsInTreeStand = (c : Catalog) (l : Live) → IsKept c l → (t : List ℕ) (v : Tuple)
    → StandFor c.texts (head_types l) t v → IsShownInTree c.texts l t v

-- The cells of what can be shown, in the head's order, represent the values that it shows.
abbrev pub ShowableCellsStand : Type 0
ShowableCellsStand = (texts : List Bytes) (l : Live) (u : List ℕ) → IsShowable texts l u
    → StandFor texts (head_types l) (in_head l u) (values_of texts l u)

-- the query in a place, if there is one
abbrev pub query_at : List (Option Live) → ℕ → Option Live
query_at qs k = slice_index_or qs k None

-- the queries in these places, in this order
abbrev pub queries_at : List (Option Live) → List ℕ → List Live
queries_at qs [] = []
queries_at qs (k ∷ ks) = option_to_list (query_at qs k) ++ queries_at qs ks

-- Each of these places has a query, and there are at most eight.
pub record HaveQueries (qs : List (Option Live)) (ks : List ℕ) : Type 0 where
  pub few : length ks ≤ 8
  pub each : AllByRecursion (λ k. IsSomeAnd (query_at qs k) (λ l. ⊤)) ks

-- The answers of all of these have the same types.
pub record AreAlike (ls : List Live) : Type 0 where
  pub each : (l m : Live) → Contains ls l → Contains ls m → head_types l ≡ head_types m

-- If the queries in places are maintained over some catalog, these are.
abbrev pub QueriesAreKept : Type 0
QueriesAreKept = (qs : List (Option Live))
    → ((k : ℕ) (l : Live) → query_at qs k ≡ Some l → IsKeptSomewhere l)
    → (ks : List ℕ) → All IsKeptSomewhere (queries_at qs ks)
