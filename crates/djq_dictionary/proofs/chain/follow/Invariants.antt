use Rattle.std.proofs.Common.{ℕ, ◌≤◌, length}
use Rattle.djq_dictionary.specs.Chains.{IsChainHead, IsLinked, bucket_of, hashes_of, nexts_of}
use Rattle.djq_dictionary.proofs.Dictionary.{IsRest}
use Rattle.djq_dictionary.proofs.chain.follow.Given as goal

abbrev pub invariant-loop-rest : goal.invariant-loop-rest
invariant-loop-rest l = record {
  within : l.rest ≤ length l.links;
  walked : (buckets n : ℕ) → IsLinked buckets (hashes_of l.links) (nexts_of l.links)
      → IsChainHead buckets (hashes_of l.links) (bucket_of buckets l.hash) n l.fn.from
      → IsRest buckets (hashes_of l.links) l.hash n l.rest;
}

abbrev pub decreases-loop-rest : goal.decreases-loop-rest
decreases-loop-rest l = l.rest
