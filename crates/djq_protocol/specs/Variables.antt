-- The variables of a query's body.
use Rattle.std.specs.Prelude.{ℕ, suc, List, [], ◌∷◌, ◌++◌, ◌==◌, Bool, false, nat_le, Option, None, Some, if◌then◌else◌}
use Rattle.std.specs.Prelude.{Contains}
use Rattle.std.specs.List.{list_any, fold, flat_map}
use Rattle.djq_model.specs.declared.query.Query.{Query}
use Rattle.djq_model.specs.declared.query.Atom.{Atom}
use Rattle.djq_model.specs.declared.query.Comparison.{Comparison}
use Rattle.djq_model.specs.declared.query.Term.{Term}
use Rattle.djq_model.specs.declared.query.Term.TheVariants.{Variable, Hole, Constant}
use Rattle.djq_model.specs.Data.{Bytes, Tuple, bytes_eq}

-- whether a term is the variable of this name
abbrev pub is_variable : Bytes → Term → Bool
is_variable x (Variable y) = bytes_eq y x
is_variable x Hole = false
is_variable x (Constant v) = false

-- whether this variable occurs in an atom
abbrev pub stands_in : List Atom → Bytes → Bool
stands_in atoms x = list_any (λ a. list_any (is_variable x) a.terms) atoms

-- A variable occurs in an atom of a query.
abbrev pub IsInBody : Bytes → Query → Type 0
IsInBody x q = (a : Atom) × Contains q.atoms a × Contains a.terms (Variable x)

-- A variable by its name; a hole is a variable without one.
abbrev pub Label : Type 0
Label = Option Bytes

-- whether a variable has this name
abbrev pub is_named : Bytes → Label → Bool
is_named x (Some y) = bytes_eq y x
is_named x None = false

-- whether the variable of a name is known
abbrev pub is_known : List Label → Bytes → Bool
is_known known x = list_any (is_named x) known

-- the variables that are known after a term: a name becomes so at its first place, and each
-- hole is one of its own
abbrev pub with_term : List Label → Term → List Label
with_term known (Variable x) = if is_known known x then known else known ++ Some x ∷ []
with_term known Hole = known ++ None ∷ []
with_term known (Constant v) = known

-- the variables that are known after terms
abbrev pub with_terms : List Label → List Term → List Label
with_terms known ts = fold with_term known ts

-- the variables that are known after an atom
abbrev pub with_atom : List Label → Atom → List Label
with_atom known a = with_terms known a.terms

-- The variables of a body, in the order in which they first occur.
abbrev pub variables_of : List Atom → List Label
variables_of atoms = fold with_atom [] atoms

-- the constant that a term is, if it is one
abbrev pub constant_of : Term → Tuple
constant_of (Variable x) = []
constant_of Hole = []
constant_of (Constant v) = v ∷ []

-- the constants of the comparisons that follow so many atoms, and before the next one
abbrev pub compared_behind : ℕ → List Comparison → Tuple
compared_behind n comparisons =
    flat_map (λ c. if c.behind == n then c.constant ∷ [] else []) comparisons

-- the constants of the comparisons that follow all atoms, of which there are so many
abbrev pub compared_last : ℕ → List Comparison → Tuple
compared_last n comparisons =
    flat_map (λ c. if nat_le n c.behind then c.constant ∷ [] else []) comparisons

-- the constants of a body's rest, after so many atoms
abbrev pub constants_from : ℕ → List Atom → List Comparison → Tuple
constants_from n [] comparisons = compared_last n comparisons
constants_from n (a ∷ atoms) comparisons =
    compared_behind n comparisons
    ++ (flat_map constant_of a.terms ++ constants_from (suc n) atoms comparisons)

-- The constants of a query's body, in their order.
abbrev pub constants_of : Query → Tuple
constants_of q = constants_from 0 q.atoms q.comparisons
