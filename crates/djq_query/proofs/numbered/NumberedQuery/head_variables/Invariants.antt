use Rattle.std.proofs.Common.{◌≡◌, ℕ, take}
use Rattle.djq_hypergraph.specs.Hypergraph.{member}
use Rattle.djq_query.proofs.numbered.NumberedQuery.head_variables.Given as goal

abbrev pub invariant-head : goal.invariant-head
invariant-head l = (x : ℕ) → member x l.variables ≡ member x (take l.i l.self.head)
