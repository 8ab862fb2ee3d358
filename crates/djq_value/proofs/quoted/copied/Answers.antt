-- Where only the closing quote is behind its length a text has no escape, so it is the bytes in front.
use Rattle.std.proofs.Common.{◌∙◌}
use Rattle.djq_value.proofs.Texts.{plain_piece}
use Rattle.djq_value.proofs.quoted.copied.Goals as goal

pub returns-in_ok-from_slice : goal.returns-in_ok-from_slice
returns-in_ok-from_slice c = c.in_ok-from_slice.ensures.items
    ∙ plain_piece c.args.bytes.now c.args.end c.args.len c.requires.ends c.if-end-len.true
