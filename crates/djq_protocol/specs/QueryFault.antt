-- Why a query can't be asked over relations, whatever their rows are.
use Rattle.std.specs.Prelude.{
  List,
  [],
  ◌∷◌,
  ◌++◌,
  ◌==◌,
  ◌&&◌,
  ◌||◌,
  Bool,
  true,
  false,
  not,
  nat_lt,
  Option,
  is_none,
  is_some,
  nat_le,
  length,
}
use Rattle.std.specs.List.{list_any}
use Rattle.djq_model.specs.declared.relation.ColumnType.{ColumnType}
use Rattle.djq_model.specs.declared.relation.ColumnType.TheVariants.{Int as IntColumn, Text as TextColumn}
use Rattle.djq_model.specs.declared.relation.Relation.{Relation}
use Rattle.djq_model.specs.declared.query.Query.{Query}
use Rattle.djq_model.specs.declared.query.Atom.{Atom}
use Rattle.djq_model.specs.declared.query.Term.{Term}
use Rattle.djq_model.specs.declared.query.Term.TheVariants.{Variable, Hole, Constant}
use Rattle.djq_model.specs.declared.query.Operator.{Operator}
use Rattle.djq_model.specs.declared.query.Operator.TheVariants.{Equal, NotEqual}
use Rattle.djq_model.specs.declared.query.Comparison.{Comparison}
use Rattle.djq_model.specs.Data.{bytes_eq, relation_of}
use Rattle.djq_model.specs.Listed.{Listed, listed_of}
use Rattle.djq_value.specs.Literal.{are_different}
use Rattle.djq_protocol.specs.declared.limits.TheConstants.{ATOMS, VARIABLES, HEAD_VARIABLES, COMPARISONS, QUERIES}
use Rattle.djq_protocol.specs.declared.answer.Refusal.{Refusal}
use Rattle.djq_protocol.specs.declared.answer.Refusal.TheVariants.{
  Taken,
  NoRelation,
  Arity,
  WrongType,
  VariableType,
  Unbound,
  HeadRepeated,
  HeadUnbound,
  Limit,
}
use Rattle.djq_protocol.specs.Columns.{columns_of, is_of, same_type}
use Rattle.djq_protocol.specs.Conditions.{first_refusal}
use Rattle.djq_protocol.specs.Variables.{stands_in, variables_of}

-- whether a term and the type of its column pass a test somewhere among terms and columns
abbrev pub any_column : (Term → ColumnType → Bool) → List Term → List ColumnType → Bool
any_column p [] cs = false
any_column p (t ∷ ts) [] = false
any_column p (t ∷ ts) (c ∷ cs) = p t c || any_column p ts cs

-- the same somewhere in a body
abbrev pub any_place : (Term → ColumnType → Bool) → List Relation → List Atom → Bool
any_place p relations atoms =
    list_any (λ a. any_column p a.terms (columns_of relations a.relation)) atoms

-- An atom is over a relation that isn't there.
abbrev pub reads_unknown : List Relation → Query → Bool
reads_unknown relations q = list_any (λ a. is_none (relation_of relations a.relation)) q.atoms

-- An atom has another number of terms than its relation has columns.
abbrev pub has_wrong_arity : List Relation → Query → Bool
has_wrong_arity relations q =
    list_any (λ a. not (length a.terms == length (columns_of relations a.relation))) q.atoms

-- a constant at a column of another type
abbrev pub is_misfit : Term → ColumnType → Bool
is_misfit (Constant v) c = not (is_of c v)
is_misfit (Variable x) c = false
is_misfit Hole c = false

-- A constant is of another type than its column.
abbrev pub has_misfit : List Relation → Query → Bool
has_misfit relations q = any_place is_misfit relations q.atoms

-- one variable at columns of two types
abbrev pub is_clash : Term → ColumnType → Term → ColumnType → Bool
is_clash (Variable x) c (Variable y) d = bytes_eq y x && not (same_type d c)
is_clash _ c _ d = false

-- A variable is at columns of two types.
abbrev pub has_clash : List Relation → Query → Bool
has_clash relations q =
    any_place (λ t c. any_place (is_clash t c) relations q.atoms) relations q.atoms

-- A comparison is of a variable that occurs in no atom.
abbrev pub compares_unbound : Query → Bool
compares_unbound q = list_any (λ c. not (stands_in q.atoms c.variable)) q.comparisons

-- whether an operator has a meaning at columns of this type: texts are equal or not, and no more
abbrev pub has_order : Operator → ColumnType → Bool
has_order Equal c = true
has_order NotEqual c = true
has_order o IntColumn = true
has_order o TextColumn = false

-- the variable of a comparison at a column of another type than its constant, or at one for which
-- its operator has no meaning
abbrev pub is_miscompared : Comparison → Term → ColumnType → Bool
is_miscompared c (Variable x) column =
    bytes_eq x c.variable && not (is_of column c.constant && has_order c.operator column)
is_miscompared c Hole column = false
is_miscompared c (Constant v) column = false

-- A comparison doesn't suit its variable's type.
abbrev pub has_miscompared : List Relation → Query → Bool
has_miscompared relations q =
    list_any (λ c. any_place (is_miscompared c) relations q.atoms) q.comparisons

-- A variable occurs in the head twice.
abbrev pub repeats_head : Query → Bool
repeats_head q = not (are_different q.head)

-- A variable of the head occurs in no atom.
abbrev pub has_unbound_head : Query → Bool
has_unbound_head q = list_any (λ x. not (stands_in q.atoms x)) q.head

-- It has too many atoms, variables, head variables or comparisons.
abbrev pub is_too_large : Query → Bool
is_too_large q =
    nat_lt ATOMS (length q.atoms)
    || (nat_lt VARIABLES (length (variables_of q.atoms))
    || (nat_lt HEAD_VARIABLES (length q.head) || nat_lt COMPARISONS (length q.comparisons)))

-- what is wrong with a query, in the order in which it is tried
abbrev pub query_faults : List Relation → Query → List (Bool × Refusal)
query_faults relations q =
    (reads_unknown relations q, NoRelation)
    ∷ (has_wrong_arity relations q, Arity)
    ∷ (has_misfit relations q, WrongType)
    ∷ (has_clash relations q, VariableType)
    ∷ (compares_unbound q, Unbound)
    ∷ (has_miscompared relations q, WrongType)
    ∷ (repeats_head q, HeadRepeated)
    ∷ (has_unbound_head q, HeadUnbound)
    ∷ (is_too_large q, Limit)
    ∷ []

-- The first fault of a query; none if it can be asked over these relations.
abbrev pub query_fault : List Relation → Query → Option Refusal
query_fault relations q = first_refusal (query_faults relations q)

-- Why a query isn't registered beside others: its name is in use, a fault, or the number of queries.
abbrev pub whole_query_refusal : List Relation → List Listed → Query → Option Refusal
whole_query_refusal relations queries q = first_refusal (
    (is_some (listed_of queries q.name), Taken)
    ∷ query_faults relations q
    ++ (nat_le QUERIES (length queries), Limit)
    ∷ [])
