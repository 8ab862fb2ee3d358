-- A number below 10 is printed as one byte, the digit's, so the bytes put are those of two numbers.
use Rattle.djq_reply.proofs.Printing.{and_digit}
use Rattle.djq_reply.proofs.short.say_with_digit.Goals as goal

pub returns-clause-says : goal.returns-clause-says
returns-clause-says c = rw (and_digit c.args.words.now c.args.number c.args.digit c.requires.digit)
    c.say_digits.ensures.says
