-- A variable of an edge has a name or is left; one beyond the names shows that they aren't enough.
use Rattle.std.proofs.Common.{rules, arith}
use Rattle.djq_hypergraph.proofs.Labels.{naming_done, unnamed}
use Rattle.djq_hypergraph.proofs.edges.Edges.is_named.Goals as goal

pub returns-then-variable-len : goal.returns-then-variable-len
returns-then-variable-len c = (
  λ h. absurd cc,
  λ all. absurd (unnamed c.args.names.now c.args.self.now c.loop-variable.rest c.pop.new.self c.in-Some.variable
      c.loop-variable.invariant c.in-Some.ensures.taken
      (let l = c.len.ensures in let t = c.if-variable-len.true in omega arith) all),
)

pub returns : goal.returns
returns c = (
  λ h. naming_done c.args.names.now c.args.self.now c.loop-variable.rest c.loop-variable.invariant
      c.in_default.ensures.none,
  λ all. search rules,
)
