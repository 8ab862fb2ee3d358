-- The answers of a query, as the answers of its tree show them.
use Rattle.std.specs.Prelude.{
  ◌≡◌,
  ◌↔◌,
  ⊤,
  ℕ,
  List,
  [],
  ◌∷◌,
  map,
  slice_index,
  All,
  AllPairs,
  Contains,
}
use Rattle.djq_model.specs.declared.value.Value.{Value}
use Rattle.djq_model.specs.declared.query.Query.{Query}
use Rattle.djq_model.specs.Data.{Bytes, Tuple}
use Rattle.djq_model.specs.Answer.{IsAnswer, IsListing}
use Rattle.djq_query.specs.declared.numbered.Variable.{Variable}
use Rattle.djq_query.specs.Numbered.{Numbered}
use Rattle.djq_query.specs.Pattern.{Shape}
use Rattle.djq_reduct.specs.Columns.{column}
use Rattle.djq_reduct.specs.Reducts.{Reducts}
use Rattle.djq_reduct.specs.Answers.{IsAnswerOf}
use Rattle.djq_database.specs.Cells.{CellStandsFor}
use Rattle.djq_database.specs.Parts.{value_of}
use Rattle.djq_database.specs.Catalog.{Catalog}
use Rattle.djq_binder.specs.Asked.{column_of}
use Rattle.djq_leaves.specs.Leaves.{IsOver}

-- the value of the variable x in a tuple over the variables F
abbrev pub value_at : List Bytes → List Variable → List ℕ → List ℕ → ℕ → Value
value_at texts variables F u x = value_of texts (column_of variables x) (slice_index u (column F x))

-- A tuple over the variables F in rising order, as values in the head's order.
abbrev pub shown : List Bytes → Numbered → List ℕ → List ℕ → Tuple
shown texts n F u = map (value_at texts n.variables F u) n.head

-- the cells of a tuple over F represent values, those of the head's variables, one by one
abbrev pub AreShownAs : List Bytes → List Variable → List ℕ → List ℕ → List ℕ → Tuple → Type 0
AreShownAs texts variables F u [] [] = ⊤
AreShownAs texts variables F u (x ∷ xs) (v ∷ vs) =
    CellStandsFor texts (column_of variables x) (slice_index u (column F x)) v
    × AreShownAs texts variables F u xs vs
AreShownAs texts variables F u [] (v ∷ vs) = ⊥
AreShownAs texts variables F u (x ∷ xs) [] = ⊥

-- an answer of the tree shows this tuple
pub record IsShownIn (c : Catalog) (n : Numbered) (r : Reducts) (answer : Tuple) : Type 0 where
  pub tuple : List ℕ
  pub is_answer : IsAnswerOf r tuple
  pub is : answer ≡ shown c.texts n r.tree.head tuple

-- A tuple is an answer of the query if and only if an answer of the tree shows it.
abbrev pub AnswersAreShown : Type 0
AnswersAreShown = (c : Catalog) (q : Query) (n : Numbered) (ps : List Shape) (r : Reducts)
    → IsOver c q n ps r → (answer : Tuple)
    → IsAnswer c.relations q answer ↔ IsShownIn c n r answer

-- The cells of an answer of the tree represent the values that it shows.
abbrev pub AnswersStand : Type 0
AnswersStand = (c : Catalog) (q : Query) (n : Numbered) (ps : List Shape) (r : Reducts)
    → IsOver c q n ps r → (u : List ℕ) → IsAnswerOf r u
    → AreShownAs c.texts n.variables r.tree.head u n.head (shown c.texts n r.tree.head u)

-- Different answers of the tree show different tuples.
abbrev pub AnswersDiffer : Type 0
AnswersDiffer = (c : Catalog) (q : Query) (n : Numbered) (ps : List Shape) (r : Reducts)
    → IsOver c q n ps r → (u v : List ℕ) → IsAnswerOf r u → IsAnswerOf r v
    → shown c.texts n r.tree.head u ≡ shown c.texts n r.tree.head v → u ≡ v

-- A listing of the tree's answers shows a listing of the query's.
abbrev pub AnswersAreListed : Type 0
AnswersAreListed = (c : Catalog) (q : Query) (n : Numbered) (ps : List Shape) (r : Reducts)
    → IsOver c q n ps r → (us : List (List ℕ)) → AllPairs (λ u v. u ≡ v → ⊥) us
    → All (IsAnswerOf r) us → ((u : List ℕ) → IsAnswerOf r u → Contains us u)
    → IsListing (IsAnswer c.relations q) (map (λ u. shown c.texts n r.tree.head u) us)
