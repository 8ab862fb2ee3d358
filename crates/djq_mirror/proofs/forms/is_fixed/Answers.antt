-- The search through the array tells whether one of these lines is the line, as the definition does.
use Rattle.djq_mirror.proofs.forms.is_fixed.Goals as goal

pub returns : goal.returns
returns c = c.contains.ensures.value
