use Rattle.std.proofs.Common.{◌≡◌, ℕ, ◌<◌, ◌++◌, true, length}
use Rattle.djq_hypergraph.specs.Hypergraph.{member}
use Rattle.djq_tree.specs.Explaining.{comma_listed}
use Rattle.djq_tree.proofs.lines.Lines.push_label.Given as goal

abbrev pub invariant-loop-variable : goal.invariant-loop-variable
invariant-loop-variable l = record {
  named : (x : ℕ) → member x l.rest ≡ true → x < length l.variables;
  so_far : l.self ++ comma_listed l.variables l.rest ≡ l.initial.self ++ comma_listed l.variables l.initial.rest;
}

abbrev pub decreases-loop-variable : goal.decreases-loop-variable
decreases-loop-variable l = length l.rest
