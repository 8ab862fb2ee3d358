-- The line is what stands before the first LF, without a CR, and what is behind it begins one byte further.
use Rattle.std.proofs.Common.{◌∙◌, ◌≡◌, ◌≤◌, sym, arith, take, length}
use Rattle.std.proofs.lemmas.List.{take-take, length-take-le}
use Rattle.djq_parser.proofs.RowLines.{front_of-long_at, front_of-line}
use Rattle.djq_parser.proofs.splitter.line_at.Goals as goal

pub returns-then-is_long : goal.returns-then-is_long
returns-then-is_long c = front_of-long_at c.args.bytes.now c.args.at c.requires
    (sym c.is_long.ensures ∙ c.if-is_long.true)

pub returns-else-is_long : goal.returns-else-is_long
returns-else-is_long c =
    let held = c.args.bytes.now in
    let at = c.args.at in
    let end = c.trimmed_len.result in
    let all : length (take at held) ≡ at = length-take-le at held (omega (arith, c.requires.within)) in
    let within : end ≤ at = omega (arith, all, c.trimmed_len.ensures.within) in
    let line : take end held ≡ take end (take at held) = sym (take-take end at held within) in
    let front = front_of-line held at c.requires (sym c.is_long.ensures ∙ c.if-is_long.false) (take end held)
    (line ∙ c.trimmed_len.ensures.trimmed) in
    (front, omega arith, omega (arith, c.requires.within), omega arith)
