-- A line that isn't UTF-8 says no command; any other says what its tokens say.
use Rattle.std.proofs.Common.{◌∙◌, sym, subst, refl, Result, Err}
use Rattle.std.proofs.lemmas.Bool.{cond-false, cond-true}
use Rattle.djq_protocol.specs.Grammar.{command_in, command_of}
use Rattle.djq_protocol.specs.declared.command.Command.{Command}
use Rattle.djq_parser.specs.Reading.{GivesCommand}
use Rattle.djq_parser.specs.declared.refusal.LineRefusal.{LineRefusal}
use Rattle.djq_parser.specs.declared.refusal.LineRefusal.TheVariants.{Syntax}
use Rattle.djq_parser.proofs.command.read_command.Goals as goal

pub returns-then-not-is_utf8 : goal.returns-then-not-is_utf8
unfolding command_of
returns-then-not-is_utf8 c =
    let r : Result Command LineRefusal = Err Syntax in
    subst (λ o. GivesCommand o r) (sym (cond-false _ _ _ (sym c.is_utf8.ensures ∙ c.if-not-is_utf8.true))) (refl, tt)

pub returns : goal.returns
unfolding command_of
returns c = subst (λ o. GivesCommand o c.read_tokens.result)
    (sym (cond-true _ _ _ (sym c.is_utf8.ensures ∙ c.if-not-is_utf8.false)))
    (subst (λ ts. GivesCommand (command_in ts) c.read_tokens.result) c.new-lexer.ensures c.read_tokens.ensures)
