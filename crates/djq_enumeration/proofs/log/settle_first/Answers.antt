use Rattle.std.proofs.Common.{arith, sym, subst, ◌≤◌, length, List, ℕ, take, drop}
use Rattle.std.proofs.lemmas.List.{take-append-le}
use Rattle.djq_delta.specs.Lines.{SettlesTo}
use Rattle.djq_enumeration.specs.declared.log.Line.{Line}
use Rattle.djq_enumeration.specs.Log.{signed_lines}
use Rattle.djq_enumeration.proofs.log.settle_first.Goals as goal

-- those that remain are among the first
pub returns-clause-settled : goal.returns-clause-settled
returns-clause-settled c =
    let len : ℕ = c.args.len in
    let old : List Line = c.args.lines.now in
    let new : List Line = c.settle_lines.new.lines in
    let remaining : ℕ = c.settle_lines.result in
    let few : remaining ≤ length new = omega (arith, c.settle_lines.ensures.long, c.settle_lines.ensures.fewer) in
    subst (λ (ls : List Line). SettlesTo (signed_lines (take len old)) (signed_lines ls))
    (sym (take-append-le remaining new (drop len old) few)) c.settle_lines.ensures.settled
