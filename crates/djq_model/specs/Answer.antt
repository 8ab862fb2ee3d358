-- What an answer of a conjunctive query is, and a listing of its answers.
use Rattle.std.specs.Prelude.{List, [], ◌∷◌, ◌≡◌, Bool, true, false, not, All, AllPairs, Contains, map}
use Rattle.std.specs.Int.Signed.{lt_z}
use Rattle.djq_model.specs.declared.value.Value.{Value}
use Rattle.djq_model.specs.declared.value.Value.TheVariants.{Int}
use Rattle.djq_model.specs.declared.relation.Relation.{Relation}
use Rattle.djq_model.specs.declared.query.Query.{Query}
use Rattle.djq_model.specs.declared.query.Atom.{Atom}
use Rattle.djq_model.specs.declared.query.Term.{Term}
use Rattle.djq_model.specs.declared.query.Term.TheVariants.{Variable, Hole, Constant}
use Rattle.djq_model.specs.declared.query.Operator.{Operator}
use Rattle.djq_model.specs.declared.query.Operator.TheVariants.{
  Less,
  LessOrEqual,
  Greater,
  GreaterOrEqual,
  Equal,
  NotEqual,
}
use Rattle.djq_model.specs.declared.query.Comparison.{Comparison}
use Rattle.djq_model.specs.Data.{Bytes, Tuple, value_eq, rows_of}

-- An assignment gives a value to each variable.
abbrev pub Assignment : Type 0
Assignment = Bytes → Value

-- The value of a term. Each hole is a variable of its own, so it may have any value.
abbrev pub StandsFor : Assignment → Term → Value → Type 0
StandsFor a (Variable x) v = a x ≡ v
StandsFor a Hole v = Unit {0}
StandsFor a (Constant c) v = c ≡ v

-- Terms have the values of a tuple, one by one.
abbrev pub StandForAll : Assignment → List Term → Tuple → Type 0
StandForAll a [] [] = Unit {0}
StandForAll a (t ∷ ts) (v ∷ vs) = StandsFor a t v × StandForAll a ts vs
StandForAll a [] (v ∷ vs) = ⊥
StandForAll a (t ∷ ts) [] = ⊥

-- An assignment satisfies an atom if the values of the atom's terms are a row of its relation.
pub record Satisfies (relations : List Relation) (a : Assignment) (atom : Atom) : Type 0 where
  pub row : Tuple
  pub is_there : Contains (rows_of relations atom.relation) row
  pub stands : StandForAll a atom.terms row

-- Whether an operator holds of a value and a constant. Integers are compared as numbers; texts only
-- for equality.
abbrev pub compares : Operator → Value → Value → Bool
compares Equal v c = value_eq v c
compares NotEqual v c = not (value_eq v c)
compares Less (Int i) (Int j) = lt_z i j
compares LessOrEqual (Int i) (Int j) = not (lt_z j i)
compares Greater (Int i) (Int j) = lt_z j i
compares GreaterOrEqual (Int i) (Int j) = not (lt_z i j)
compares _ _ _ = false

-- A comparison holds of an assignment.
abbrev pub HoldsOf : Assignment → Comparison → Type 0
HoldsOf a c = compares c.operator (a c.variable) c.constant ≡ true

-- An answer is what an assignment gives on the head that satisfies every atom and of which every
-- comparison holds.
pub record IsAnswer (relations : List Relation) (q : Query) (answer : Tuple) : Type 0 where
  pub assignment : Assignment
  pub satisfies : All (Satisfies relations assignment) q.atoms
  pub compared : All (HoldsOf assignment) q.comparisons
  pub on_head : answer ≡ map assignment q.head

-- No two of a list are equal.
abbrev pub AreDifferent : List Tuple → Type 0
AreDifferent ts = AllPairs (λ s t. s ≡ t → ⊥) ts

-- A listing has each answer once and nothing else.
pub record IsListing (Answer : Tuple → Type 0) (ts : List Tuple) : Type 0 where
  pub different : AreDifferent ts
  pub answers : All Answer ts
  pub complete : (t : Tuple) → Answer t → Contains ts t
