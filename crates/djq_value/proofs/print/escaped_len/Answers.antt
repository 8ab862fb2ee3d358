-- An escaped byte takes two bytes, so a text takes one more for each byte that needs an escape.
use Rattle.std.proofs.Common.{◌+◌, ◌∙◌, sym, ap, length}
use Rattle.djq_value.proofs.Texts.{length-flat_map-escaped}
use Rattle.djq_value.proofs.print.escaped_len.Goals as goal

pub returns : goal.returns
returns c = ap (λ n. length c.args.text.now + n) c.escape_count.ensures.value
    ∙ sym (length-flat_map-escaped c.args.text.now)
