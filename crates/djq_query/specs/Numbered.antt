-- Queries over numbers, and the numbering of a query.
use Rattle.std.specs.Prelude.{ℕ, ◌==◌, List, [], ◌∷◌, ◌++◌, ◌≡◌, ◌≤◌, Bool, true, false, nat_lt}
use Rattle.std.specs.Prelude.{Option, None, Some, if◌then◌else◌, length, map, slice_get}
use Rattle.std.specs.List.{list_all, fold}
use Rattle.djq_model.specs.declared.relation.ColumnType.{ColumnType}
use Rattle.djq_model.specs.declared.relation.Relation.{Relation}
use Rattle.djq_model.specs.declared.query.Query.{Query}
use Rattle.djq_model.specs.declared.query.Atom.{Atom}
use Rattle.djq_model.specs.declared.query.Comparison.{Comparison}
use Rattle.djq_model.specs.declared.query.Term.{Term}
use Rattle.djq_model.specs.declared.query.Term.TheVariants.{Variable as Named, Hole, Constant}
use Rattle.djq_model.specs.Data.{relation_of}
use Rattle.djq_protocol.specs.declared.limits.TheConstants.{VARIABLES, HEAD_VARIABLES}
use Rattle.djq_protocol.specs.Columns.{columns_of}
pub use Rattle.djq_protocol.specs.Hypergraph.{number_of}
use Rattle.djq_protocol.specs.Variables.{Label, is_known, with_atom, with_term}
use Rattle.djq_query.specs.declared.numbered.Variable.{Variable}
use Rattle.djq_query.specs.declared.numbered.NumberedTerm.{NumberedTerm}
use Rattle.djq_query.specs.declared.numbered.NumberedTerm.TheVariants.{Variable as Number, Constant as Fixed}
use Rattle.djq_query.specs.declared.numbered.NumberedAtom.{NumberedAtom}
use Rattle.djq_query.specs.declared.numbered.NumberedComparison.{NumberedComparison}

-- a head, atoms and comparisons over numbers, and the variable of each number
pub record Numbered : Type 0 where
  pub head : List ℕ
  pub atoms : List NumberedAtom
  pub comparisons : List NumberedComparison
  pub variables : List Variable

-- The numbering.

-- the names of variables
abbrev pub labels : List Variable → List Label
labels known = map (λ v. v.name) known

-- a term by number, if these variables are known before it
abbrev pub numbered : List Label → Term → NumberedTerm
numbered known (Named x) = Number (number_of known x)
numbered known Hole = Number (length known)
numbered known (Constant v) = Fixed v

-- terms by number, if these are known before them
unfoldable pub numbered_terms : List Label → List Term → List NumberedTerm
numbered_terms known [] = []
numbered_terms known (t ∷ ts) = numbered known t ∷ numbered_terms (with_term known t) ts

-- An atom over the same relation, with the same terms by number.
abbrev pub IsNumberedAtom : List Relation → List Label → Atom → NumberedAtom → Type 0
IsNumberedAtom relations known a n =
    (slice_get relations n.relation ≡ relation_of relations a.relation) × (n.terms ≡ numbered_terms known a.terms)

-- Atoms by number, one by one, if these variables are known before them.
unfoldable pub AreNumbered : List Relation → List Label → List Atom → List NumberedAtom → Type 0
AreNumbered relations known [] [] = Unit {0}
AreNumbered relations known (a ∷ atoms) (n ∷ ns) =
    IsNumberedAtom relations known a n × AreNumbered relations (with_atom known a) atoms ns
AreNumbered relations known [] (n ∷ ns) = ⊥
AreNumbered relations known (a ∷ atoms) [] = ⊥

-- The variables with their types: that of the column of each one's first place.

-- the variables that are known after a term in a column of this type
unfoldable pub with_place : List Variable → Term → ColumnType → List Variable
with_place known (Named x) c =
    if is_known (labels known) x then known else known ++ record { name = Some x; column = c } ∷ []
with_place known Hole c = known ++ record { name = None; column = c } ∷ []
with_place known (Constant v) c = known

-- the variables that are known after terms in columns of these types
unfoldable pub with_places : List Variable → List Term → List ColumnType → List Variable
with_places known [] cs = known
with_places known (t ∷ ts) [] = known
with_places known (t ∷ ts) (c ∷ cs) = with_places (with_place known t c) ts cs

-- the variables that are known after an atom, with their types
abbrev pub with_columns : List Relation → List Variable → Atom → List Variable
with_columns relations known a = with_places known a.terms (columns_of relations a.relation)

-- the variables of a body, with their types
abbrev pub variables_in : List Relation → List Atom → List Variable
variables_in relations atoms = fold (with_columns relations) [] atoms

-- a comparison over the number of its variable
abbrev pub numbered_comparison : List Label → Comparison → NumberedComparison
numbered_comparison known c = record {
  variable = number_of known c.variable;
  operator = c.operator;
  constant = c.constant;
}

-- A query by number.
pub record IsNumbered (relations : List Relation) (q : Query) (n : Numbered) : Type 0 where
  pub atoms : AreNumbered relations [] q.atoms n.atoms
  pub comparisons : n.comparisons ≡ map (numbered_comparison (labels n.variables)) q.comparisons
  pub variables : n.variables ≡ variables_in relations q.atoms
  pub head : n.head ≡ map (number_of (labels n.variables)) q.head

-- whether a variable's number is below this
abbrev pub is_below : ℕ → NumberedTerm → Bool
is_below count (Number x) = nat_lt x count
is_below count (Fixed v) = true

-- whether each variable among terms has a number below this
abbrev pub are_below : ℕ → List NumberedTerm → Bool
are_below count terms = list_all (is_below count) terms

-- Each number is that of a variable, and there are few of them.
pub record IsWithin (n : Numbered) : Type 0 where
  pub few : length n.variables ≤ VARIABLES
  pub body : list_all (λ a. are_below (length n.variables) a.terms) n.atoms ≡ true
  pub compared : list_all (λ c. nat_lt c.variable (length n.variables)) n.comparisons ≡ true
  pub narrow : length n.head ≤ HEAD_VARIABLES
  pub head : list_all (λ x. nat_lt x (length n.variables)) n.head ≡ true

-- whether a term is the variable of this number
abbrev pub is_number : ℕ → NumberedTerm → Bool
is_number x (Number y) = x == y
is_number x (Fixed v) = false

-- the terms of the atom at a place, none past the end
abbrev pub terms_in : Option NumberedAtom → List NumberedTerm
terms_in None = []
terms_in (Some a) = a.terms

-- the terms of the atom at a place; none past the end
abbrev pub terms_at : List NumberedAtom → ℕ → List NumberedTerm
terms_at atoms p = terms_in (slice_get atoms p)
