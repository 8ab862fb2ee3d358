-- The hypergraph of a query: for each atom the set of its variables, and the set of the head's. A
-- variable is its number, its place among the variables of the body.
use Rattle.std.specs.Prelude.{ℕ, List, [], ◌∷◌, None, Some, length, map, codes}
use Rattle.std.specs.List.{position_or_len}
use Rattle.djq_hypergraph.specs.Hypergraph.{set_below}
use Rattle.djq_model.specs.declared.query.Query.{Query}
use Rattle.djq_model.specs.declared.query.Atom.{Atom}
use Rattle.djq_model.specs.declared.query.Term.{Term}
use Rattle.djq_model.specs.declared.query.Term.TheVariants.{Variable, Hole, Constant}
use Rattle.djq_model.specs.Data.{Bytes}
use Rattle.djq_protocol.specs.Variables.{Label, is_named, with_term, with_atom, variables_of}

-- the number of a name if these variables are known; the next number if it isn't among them
abbrev pub number_of : List Label → Bytes → ℕ
number_of known x = position_or_len (is_named x) known

-- the numbers of the variables of terms, if these are known before them
unfoldable pub numbers_in : List Label → List Term → List ℕ
numbers_in known [] = []
numbers_in known (Variable x ∷ ts) =
    number_of known x ∷ numbers_in (with_term known (Variable x)) ts
numbers_in known (Hole ∷ ts) = length known ∷ numbers_in (with_term known Hole) ts
numbers_in known (Constant v ∷ ts) = numbers_in known ts

-- the edges of atoms, if these variables are known before them and there are n in all
unfoldable pub edges_from : ℕ → List Label → List Atom → List (List ℕ)
edges_from n known [] = []
edges_from n known (a ∷ atoms) =
    set_below n (numbers_in known a.terms) ∷ edges_from n (with_atom known a) atoms

-- The edges of a query, one for each atom.
abbrev pub edges_of : Query → List (List ℕ)
edges_of q = edges_from (length (variables_of q.atoms)) [] q.atoms

-- The edge of its head.
abbrev pub head_of : Query → List ℕ
head_of q =
    set_below (length (variables_of q.atoms)) (map (number_of (variables_of q.atoms)) q.head)

-- a variable's name, if it has one
abbrev pub label_name : Label → Bytes
label_name (Some x) = x
label_name None = codes "_"

-- The names of a query's variables.
abbrev pub variable_names : Query → List Bytes
variable_names q = map label_name (variables_of q.atoms)
