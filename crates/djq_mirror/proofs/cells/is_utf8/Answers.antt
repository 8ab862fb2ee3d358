-- Decoding gives a text exactly where the bytes are UTF-8, and an error exactly where they aren't.
use Rattle.std.proofs.Common.{◌∙◌}
use Rattle.std.specs.Str.{is_utf8}
use Rattle.std.proofs.lemmas.Str.{is_utf8-from_IsUtf8}
use Rattle.djq_value.proofs.Texts.{ok_is, utf8_no}
use Rattle.djq_mirror.proofs.cells.is_utf8.Goals as goal

pub returns : goal.returns
returns c =
    c.is_ok.ensures.value
    ∙ ok_is c.from_utf8.result (is_utf8 c.args.bytes.now) _ _ c.from_utf8.ensures.cases
    (λ s h. is_utf8-from_IsUtf8 c.args.bytes.now h.1) (λ e h. utf8_no c.args.bytes.now h.0)
