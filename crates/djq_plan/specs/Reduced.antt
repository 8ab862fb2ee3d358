-- The result of a reduction of acyclic edges.
use Rattle.std.specs.Prelude.{ℕ, List}
use Rattle.djq_hypergraph.specs.declared.step.Step.{Step}
use Rattle.djq_hypergraph.specs.Gyo.{Leads, HasNoVariables}

-- the steps lead from the edges to edges without a variable
abbrev pub LeadsToBare : List (List ℕ) → List Step → Type 0
LeadsToBare E S = (R : List (List ℕ)) × Leads E S R × HasNoVariables R
