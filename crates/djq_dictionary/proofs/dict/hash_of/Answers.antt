-- The hash is the lower half of what the hasher gives for the bytes of the text, by its definition.
use Rattle.std.proofs.Common.{rules}
use Rattle.djq_dictionary.specs.Hash.{hash_of}
use Rattle.djq_dictionary.proofs.dict.hash_of.Goals as goal

pub returns : goal.returns
unfolding hash_of
returns c = search rules
