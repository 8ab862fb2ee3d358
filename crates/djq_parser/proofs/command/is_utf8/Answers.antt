-- The standard library's answer is fine just where the bytes are UTF-8 as the spec says, in both directions.
use Rattle.std.proofs.Common.{◌∙◌}
use Rattle.std.specs.Str.{is_utf8}
use Rattle.djq_value.proofs.Texts.{ok_is, utf8_no}
use Rattle.std.proofs.lemmas.Str.{is_utf8-from_IsUtf8}
use Rattle.djq_parser.proofs.command.is_utf8.Goals as goal

pub returns : goal.returns
returns c = c.is_ok.ensures.value
    ∙ ok_is c.from_utf8.result (is_utf8 c.args.line.now) _ _ c.from_utf8.ensures.cases
    (λ s h. is_utf8-from_IsUtf8 c.args.line.now h.1) (λ e h. utf8_no c.args.line.now h.0)
