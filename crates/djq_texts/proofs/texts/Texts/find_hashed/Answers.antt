-- The walk goes through the bucket of the text's hash.
use Rattle.djq_texts.proofs.texts.Texts.find_hashed.Goals as goal

pub find_from-requires-clause-index : goal.find_from-requires-clause-index
find_from-requires-clause-index c = c.self.invariant.index

pub returns-clause-found : goal.returns-clause-found
returns-clause-found c = rw (← c.self.view_is) c.find_from.ensures

pub returns-clause-one : goal.returns-clause-one
returns-clause-one c = rw (← c.self.view_is) c.self.invariant.one
