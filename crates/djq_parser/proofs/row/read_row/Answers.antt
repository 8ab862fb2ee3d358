-- Where a row's keyword is taken in front, the line says its command with the name and values read behind it.
use Rattle.std.proofs.Common.{Some, subst}
use Rattle.djq_value.specs.Token.{tokens}
use Rattle.djq_parser.specs.RowReading.{TakesRowWord}
use Rattle.djq_parser.specs.declared.row.RowWord.{RowWord}
use Rattle.djq_parser.specs.declared.row.RowWord.TheVariants.{Add, Del}
use Rattle.djq_parser.proofs.RowLines.{begun, line_refused, line_said}
use Rattle.djq_parser.proofs.row.read_row.Goals as goal

pub returns-in-Add : goal.returns-in-Add
returns-in-Add c =
    let line = c.args.line.now in
    let rest = c.in-Some.lexer in
    let taken = subst (λ (verb : RowWord). TakesRowWord (tokens line) (Some verb) rest) c.in-Add.is c.in-Some.ensures in
    line_said Add line rest c.in-Ok.name c.read_named.new.row.items taken c.in-Ok.ensures

pub returns-in-Del : goal.returns-in-Del
returns-in-Del c =
    let line = c.args.line.now in
    let rest = c.in-Some.lexer in
    let taken = subst (λ (verb : RowWord). TakesRowWord (tokens line) (Some verb) rest) c.in-Del.is c.in-Some.ensures in
    line_said Del line rest c.in-Ok.name c.read_named.new.row.items taken c.in-Ok.ensures

pub returns-in-Err : goal.returns-in-Err
returns-in-Err c =
    let line = c.args.line.now in
    let rest = c.in-Some.lexer in (
      begun c.in-Some.verb (tokens line) rest c.in-Some.ensures,
      line_refused c.in-Some.verb line rest c.in-Err.refusal c.read_named.new.row.items c.in-Some.ensures
          c.in-Err.ensures,
    )
