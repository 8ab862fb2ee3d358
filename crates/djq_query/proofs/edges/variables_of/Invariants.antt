use Rattle.std.proofs.Common.{◌≡◌, ℕ, take}
use Rattle.std.specs.List.{list_any}
use Rattle.djq_hypergraph.specs.Hypergraph.{member}
use Rattle.djq_query.specs.Numbered.{is_number}
use Rattle.djq_query.proofs.edges.variables_of.Given as goal

abbrev pub invariant-terms : goal.invariant-terms
invariant-terms l = (x : ℕ) → member x l.variables ≡ list_any (is_number x) (take l.i l.terms)
