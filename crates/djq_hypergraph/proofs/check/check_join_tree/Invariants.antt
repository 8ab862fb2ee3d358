use Rattle.std.proofs.Common.{◌≡◌, ℕ, take, nat_lt}
use Rattle.djq_hypergraph.specs.Hypergraph.{member, degree}
use Rattle.djq_hypergraph.specs.JoinTree.{link_edges}
use Rattle.djq_hypergraph.proofs.JoinTrees.{SoFar}
use Rattle.djq_hypergraph.proofs.check.check_join_tree.Given as goal

abbrev pub invariant-links : goal.invariant-links
invariant-links l = record {
  so_far : SoFar l.sets (take l.i l.links);
  seen : (x : ℕ) → member x l.seen ≡ nat_lt 0 (degree x (link_edges l.sets (take l.i l.links)));
}
