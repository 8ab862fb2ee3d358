-- A word's variables are read off from its lowest bit on, so they are in order and below the limit.
use Rattle.djq_hypergraph.proofs.Sets.{word_rises, word_below}
use Rattle.djq_hypergraph.proofs.var_set.VarSet.rises.Goals as goal

pub returns : goal.returns
returns c = record {
  rising = word_rises c.self.inside.mask c.args.self c.self.view_is;
  below = word_below
      c.self.inside.mask c.args.self c.self.view_is;
}
