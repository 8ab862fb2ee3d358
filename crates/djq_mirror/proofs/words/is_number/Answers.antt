-- A word that reads as a number is one exactly where that number's digits are the word.
use Rattle.std.proofs.Common.{◌∙◌}
use Rattle.djq_mirror.proofs.Spellings.{number_read}
use Rattle.djq_mirror.proofs.words.is_number.Goals as goal

pub returns-in-Some : goal.returns-in-Some
returns-in-Some c = c.is_decimal.ensures ∙ number_read c.args.word.now c.in-Some.number c.in-Some.ensures
