-- What stands before the first sign is the first part, and what is behind it has the other parts.
use Rattle.std.proofs.Common.{rules, arith}
use Rattle.djq_mirror.proofs.Spellings.{first_part}
use Rattle.djq_mirror.proofs.parts.Parts.next.Goals as goal

pub returns : goal.returns
returns c =
    let first = first_part c.self.inside.sign c.in_ok-bytes.bytes.now in
    first_of (cc, grind (arith, first), search (rules, first))
