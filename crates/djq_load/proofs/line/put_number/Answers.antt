-- A number below 100,000 has at most five digits.
use Rattle.std.proofs.Common.{ℕ, List, length, ap, ◌∙◌, arith}
use Rattle.std.proofs.lemmas.Fmt.{length-decimal-le}
use Rattle.djq_load.proofs.line.put_number.Goals as goal

pub put-requires : goal.put-requires
put-requires c =
    let short = length-decimal-le 5 c.args.number (omega arith) (omega arith) (omega arith) in
    let same = ap (λ (l : List ℕ). length l) (c.as_bytes.ensures.value ∙ c.format.ensures.text) in
    omega (arith, short, same)

pub returns-clause-end : goal.returns-clause-end
returns-clause-end c =
    let short = length-decimal-le 5 c.args.number (omega arith) (omega arith) (omega arith) in
    let same = ap (λ (l : List ℕ). length l) (c.as_bytes.ensures.value ∙ c.format.ensures.text) in
    omega (arith, short, same, c.put.ensures.end)
