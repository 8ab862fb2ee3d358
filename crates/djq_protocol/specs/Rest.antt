-- Rests, as they are printed.
use Rattle.std.specs.Prelude.{
  ℕ,
  List,
  [],
  ◌∷◌,
  ◌≡◌,
  ◌==◌,
  ◌||◌,
  ◌&&◌,
  ◌↔◌,
  Bool,
  true,
  false,
  nat_lt,
  AllPairs,
  Contains,
}
use Rattle.djq_model.specs.declared.query.Query.{Query}
use Rattle.djq_protocol.specs.declared.rest.NamedRest.{NamedRest}
use Rattle.djq_protocol.specs.Hypergraph.{variable_names}

-- whether an edge precedes another one in the lexical order of their variables' numbers
abbrev pub is_before : List ℕ → List ℕ → Bool
is_before [] [] = false
is_before [] (y ∷ ys) = true
is_before (x ∷ xs) [] = false
is_before (x ∷ xs) (y ∷ ys) = nat_lt x y || (x == y && is_before xs ys)

-- A rest R of a query, with its edges in lexical order, each once, and the variables' names.
pub record IsNamedRest (q : Query) (R : List (List ℕ)) (rest : NamedRest) : Type 0 where
  pub order : AllPairs (λ e f. is_before e f ≡ true) rest.edges
  pub edges : (e : List ℕ) → Contains rest.edges e ↔ Contains R e
  pub names : rest.names ≡ variable_names q
