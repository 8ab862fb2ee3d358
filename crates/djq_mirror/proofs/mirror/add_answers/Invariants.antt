use Rattle.djq_mirror.proofs.Spellings.{IsBegun}
use Rattle.djq_mirror.proofs.mirror.add_answers.Given as goal

abbrev pub invariant-loop-text : goal.invariant-loop-text
invariant-loop-text l = IsBegun l.fn.out.items l.out.items l.texts.keys l.text-iterator
