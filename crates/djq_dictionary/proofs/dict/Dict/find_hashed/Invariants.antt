use Rattle.djq_dictionary.proofs.Dictionary.{IsSearched, ahead}
use Rattle.djq_dictionary.proofs.dict.Dict.find_hashed.Given as goal

abbrev pub invariant-loop-candidate : goal.invariant-loop-candidate
invariant-loop-candidate l = IsSearched l.self-inside.texts.texts l.self-inside.index.hashes l.text l.hash l.candidate

abbrev pub decreases-loop-candidate : goal.decreases-loop-candidate
decreases-loop-candidate l = ahead l.candidate
