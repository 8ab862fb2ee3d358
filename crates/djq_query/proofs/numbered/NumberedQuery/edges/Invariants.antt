use Rattle.std.proofs.Common.{◌≡◌, ℕ, ◌<◌, length}
use Rattle.std.specs.List.{list_any}
use Rattle.djq_hypergraph.specs.Hypergraph.{member, edge_at}
use Rattle.djq_query.specs.Numbered.{is_number, terms_at}
use Rattle.djq_query.proofs.numbered.NumberedQuery.edges.Given as goal

abbrev pub invariant-atoms : goal.invariant-atoms
invariant-atoms l = record {
  long : length l.edges ≡ l.i;
  edges : (p x : ℕ) → p < l.i → member x (edge_at l.edges p) ≡ list_any (is_number x) (terms_at l.self.atoms p);
}
