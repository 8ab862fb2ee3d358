-- What is asked of a query: the types of its answers, whether a tuple is one, and its shape.
use Rattle.std.specs.Prelude.{ℕ, List, [], ◌∷◌, ◌==◌, Bool, true, false, not, Option, None, Some, is_none, IsSomeAnd}
use Rattle.std.specs.Prelude.{unwrap_or, if◌then◌else◌, Result, length, map, ⊤}
use Rattle.djq_model.specs.declared.relation.ColumnType.{ColumnType}
use Rattle.djq_model.specs.declared.relation.ColumnType.TheVariants.{Int as IntColumn}
use Rattle.djq_model.specs.declared.relation.Relation.{Relation}
use Rattle.djq_model.specs.declared.query.Query.{Query}
use Rattle.djq_model.specs.declared.query.Atom.{Atom}
use Rattle.djq_model.specs.declared.query.Term.{Term}
use Rattle.djq_model.specs.declared.query.Term.TheVariants.{Variable, Hole, Constant}
use Rattle.djq_model.specs.Data.{Bytes, Tuple, bytes_eq, relation_of}
use Rattle.djq_model.specs.Listed.{Listed, a_query, a_union, AnswersOf, listed_of}
use Rattle.djq_model.specs.Typed.{fits}
use Rattle.djq_protocol.specs.declared.answer.Refusal.{Refusal}
use Rattle.djq_protocol.specs.declared.answer.Refusal.TheVariants.{NoQuery, Arity, WrongType}
use Rattle.djq_protocol.specs.declared.answer.Shape.{Shape}
use Rattle.djq_protocol.specs.declared.answer.Shape.TheVariants.{Flat, Linear, Union}
use Rattle.djq_protocol.specs.Columns.{types_of}
use Rattle.djq_protocol.specs.Hypergraph.{edges_of, head_of}
use Rattle.djq_hypergraph.specs.Flat.{IsFlat}
use Rattle.djq_store_spec.specs.Store.{Store}
use Rattle.djq_protocol.specs.Conditions.{first_refusal, Answers, OutOfMemoryWhere}
use Rattle.djq_store_spec.specs.Registering.{atoms_of}

-- `has`

-- the type of the first column of a variable among the terms of an atom
abbrev pub type_among : List ColumnType → List Term → Bytes → Option ColumnType
type_among (c ∷ cs) (Variable y ∷ ts) x = if bytes_eq y x then Some c else type_among cs ts x
type_among (c ∷ cs) (Hole ∷ ts) x = type_among cs ts x
type_among (c ∷ cs) (Constant v ∷ ts) x = type_among cs ts x
type_among (c ∷ cs) [] x = None
type_among [] ts x = None

-- the type of a variable: that of its first column in a body; each variable of a head has one
abbrev pub variable_type : List Relation → List Atom → Bytes → ColumnType
variable_type relations [] x = IntColumn
variable_type relations (a ∷ more) x =
    unwrap_or (type_among (types_of (relation_of relations a.relation)) a.terms x)
    (variable_type relations more x)

-- the types of the cells of a query's answers
abbrev pub answer_types : List Relation → Query → List ColumnType
answer_types relations q = map (variable_type relations q.atoms) q.head

-- those of what is registered, if anything is
abbrev pub listed_types : List Relation → Option Listed → List ColumnType
listed_types relations None = []
listed_types relations (Some (a_query q)) = answer_types relations q
listed_types relations (Some (a_union name [])) = []
listed_types relations (Some (a_union name (q ∷ qs))) = answer_types relations q

-- why a tuple doesn't suit columns of these types
abbrev pub misfit : List ColumnType → Tuple → Option Refusal
misfit types t = first_refusal (
    (not (length t == length types), Arity)
    ∷ (not (fits types t), WrongType)
    ∷ [])

-- why it isn't answered whether a tuple is an answer
abbrev pub has_refusal : Store → Bytes → Tuple → Option Refusal
has_refusal st name t =
    let types = listed_types st.relations (listed_of st.queries name) in first_refusal (
    (is_none (listed_of st.queries name), NoQuery)
    ∷ (not (length t == length types), Arity)
    ∷ (not (fits types t), WrongType)
    ∷ [])

-- An answer of yes or no is right: something holds or doesn't.
abbrev pub Tells : Type 0 → Bool → Type 0
Tells P true = P
Tells P false = P → ⊥

-- It is answered whether a tuple is an answer of a query. That needs no memory.
pub record TellsWhether (st : Store) (name : Bytes) (t : Tuple)
    (result : Result Bool Refusal) : Type 0 where
  pub answer : Answers (has_refusal st name t) result
      (λ yes. IsSomeAnd (listed_of st.queries name) (λ q. Tells (AnswersOf st.relations q t) yes))
      (OutOfMemoryWhere ⊥)

-- the most lookups that it costs: one for each atom, of a union of each of its members
abbrev pub has_steps : Option Listed → ℕ
has_steps None = 0
has_steps (Some (a_query q)) = length q.atoms
has_steps (Some (a_union name qs)) = atoms_of qs

-- `shape`

-- The answer of `shape`, by what is registered: the updates of a query are flat if and only if the
-- query is, and those of a union are its members'.
abbrev pub IsShapeOf : Listed → Shape → Type 0
IsShapeOf (a_query q) Flat = IsFlat (edges_of q) (head_of q)
IsShapeOf (a_query q) Linear = IsFlat (edges_of q) (head_of q) → ⊥
IsShapeOf (a_query q) Union = ⊥
IsShapeOf (a_union name qs) Union = ⊤
IsShapeOf (a_union name qs) _ = ⊥

-- The shape of what is registered is answered. That needs no memory.
pub record TellsShape (st : Store) (name : Bytes) (result : Result Shape Refusal) : Type 0 where
  pub answer : Answers (first_refusal ((is_none (listed_of st.queries name), NoQuery) ∷ [])) result
      (λ shape. IsSomeAnd (listed_of st.queries name) (λ q. IsShapeOf q shape))
      (OutOfMemoryWhere ⊥)
