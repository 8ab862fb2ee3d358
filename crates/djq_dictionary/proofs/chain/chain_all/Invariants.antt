use Rattle.std.proofs.Common.{◌≡◌}
use Rattle.djq_dictionary.specs.Chains.{IsChained, hashes_of, nexts_of}
use Rattle.djq_dictionary.proofs.chain.chain_all.Given as goal

abbrev pub invariant-loop-number : goal.invariant-loop-number
invariant-loop-number l = record {
  chained : IsChained (hashes_of l.links) (nexts_of l.links) l.heads l.number;
  hashes : hashes_of l.links ≡ hashes_of l.fn.links;
}
