-- What refuses a relation's types, a union's members or a query refuses the command made of them, by Making.
use Rattle.std.proofs.Common.{Result, Ok, subst, sym}
use Rattle.djq_protocol.specs.Grammar.{command_behind, named_some, name_and_members, query_of_tokens, type_of}
use Rattle.djq_protocol.specs.declared.command.Command.{Command}
use Rattle.djq_protocol.specs.declared.command.Command.TheVariants.{Query as Register}
use Rattle.djq_parser.specs.declared.refusal.LineRefusal.{LineRefusal}
use Rattle.djq_protocol.specs.declared.keyword.Keyword.TheVariants.{Rel, Query, Union}
use Rattle.djq_parser.specs.Reading.{GivesCommand}
use Rattle.djq_parser.proofs.ItemLists.{err_is}
use Rattle.djq_parser.proofs.Bodies.{query_made, query_refused, rel_refused, union_refused}
use Rattle.djq_parser.proofs.command.read_arguments.Goals as goal

pub returns-in_err-name-in-Rel : goal.returns-in_err-name-in-Rel
returns-in_err-name-in-Rel c =
    subst (λ k. GivesCommand (command_behind k c.args.lexer.now) c.from_residual.result) (sym c.in-Rel.is)
    (subst (λ r. GivesCommand (command_behind Rel c.args.lexer.now) r)
    (sym (err_is c.from_residual.result c.in_err-name-in-Rel.field-0.0 c.from_residual.ensures.1))
    (rel_refused (named_some type_of c.args.lexer.now) c.in_err-name-in-Rel.field-0.0 c.in_err-name-in-Rel.ensures))

pub returns-in_err-name-in-Union : goal.returns-in_err-name-in-Union
returns-in_err-name-in-Union c =
    let r = c.from_residual-in_err-name-in-Union in
    subst (λ k. GivesCommand (command_behind k c.args.lexer.now) r.result) (sym c.in-Union.is)
    (subst (λ x. GivesCommand (command_behind Union c.args.lexer.now) x)
    (sym (err_is r.result c.in_err-name-in-Union.field-0.0 r.ensures.1))
    (union_refused (name_and_members c.args.lexer.now) c.in_err-name-in-Union.field-0.0 c.in_err-name-in-Union.ensures))

pub returns-in_err-query-in-Query : goal.returns-in_err-query-in-Query
returns-in_err-query-in-Query c =
    let r = c.from_residual-in_err-query-in-Query in
    subst (λ k. GivesCommand (command_behind k c.args.lexer.now) r.result) (sym c.in-Query.is)
    (subst (λ x. GivesCommand (command_behind Query c.args.lexer.now) x)
    (sym (err_is r.result c.in_err-query-in-Query.field-0.0 r.ensures.1))
    (query_refused (query_of_tokens c.args.lexer.now) c.in_err-query-in-Query.field-0.0
    c.in_err-query-in-Query.ensures))

pub returns-in_ok-query-in-Query : goal.returns-in_ok-query-in-Query
returns-in_ok-query-in-Query c =
    let made : Result Command LineRefusal = Ok (Register c.in_ok-query-in-Query.query) in
    subst (λ k. GivesCommand (command_behind k c.args.lexer.now) made) (sym c.in-Query.is)
    (query_made (query_of_tokens c.args.lexer.now) c.in_ok-query-in-Query.query c.in_ok-query-in-Query.ensures)
