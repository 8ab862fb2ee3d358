-- They are a part of what holds of the texts.
use Rattle.djq_texts.proofs.Uses.{tight_numbers}
use Rattle.djq_texts.proofs.texts.Texts.laws.Goals as goal

pub returns-clause-one : goal.returns-clause-one
returns-clause-one c = rw (← c.self.view_is) c.self.invariant.one

pub returns-clause-few : goal.returns-clause-few
returns-clause-few c = rw (← c.self.view_is) c.self.invariant.index.few

pub returns-clause-tight : goal.returns-clause-tight
returns-clause-tight c = rw (← c.self.view_is) (tight_numbers _ _ _ _ _ c.self.invariant)
