-- A text that is no longer with its escapes has no byte that needs one, so it is its own escaped text.
use Rattle.std.proofs.Common.{◌≡◌, arith}
use Rattle.std.specs.List.{flat_map}
use Rattle.djq_value.specs.ValueText.{escaped}
use Rattle.djq_value.proofs.Texts.{length-flat_map-escaped, plain_text}
use Rattle.djq_value.proofs.print.extend_escaped.Goals as goal

pub returns-then-len-text : goal.returns-then-len-text
returns-then-len-text c =
    let text = c.args.text.now in
    let plain : flat_map escaped text
    ≡ text = plain_text text (omega (arith, length-flat_map-escaped text, c.requires.len, c.if-len-text.true)) in
    rw plain (record { items = c.extend_reserved.ensures.items; spare = c.extend_reserved.ensures.spare })
