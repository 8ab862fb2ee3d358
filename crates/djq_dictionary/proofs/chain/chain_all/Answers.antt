-- Before any link is put in, all heads are 0, so each chain is the empty one.
use Rattle.std.proofs.Common.{length, refl}
use Rattle.djq_dictionary.specs.Chains.{hashes_of, nexts_of}
use Rattle.djq_dictionary.proofs.Dictionary.{chained-none, zeros}
use Rattle.djq_dictionary.proofs.chain.chain_all.Goals as goal

pub loop-number-init : goal.loop-number-init
loop-number-init c = record {
  chained = chained-none (hashes_of c.args.links.now) (nexts_of c.args.links.now) c.args.heads.now
      (λ b. zeros (length c.args.heads.now) c.args.heads.now b c.requires.none);
  hashes = refl;
}
