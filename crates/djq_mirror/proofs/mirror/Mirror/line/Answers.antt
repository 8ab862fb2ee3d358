-- What was read is what the bytes say; where they say nothing they are outside, and all stays as it was.
use Rattle.std.proofs.Common.{refl, sym, arith}
use Rattle.djq_mirror.specs.Reading.{news_by}
use Rattle.djq_mirror.proofs.MirrorSteps.{line_ends, outside_none}
use Rattle.djq_mirror.proofs.mirror.Mirror.line.Goals as goal

pub returns-in-Ok-Some : goal.returns-in-Ok-Some
returns-in-Ok-Some c =
    let said = rw c.in-Ok-Some.field-0-is at c.in-Ok-Some.ensures in
    line_ends c.args.self.now c.take.new.self c.args.line.now (news_by c.in-Ok-Some.told) c.take.result (sym said)
    (omega arith) c.take.ensures

pub returns-in-Ok-None : goal.returns-in-Ok-None
returns-in-Ok-None c =
    let said = rw c.in-Ok-None.field-0-is at c.in-Ok-None.ensures in
    (outside_none c.args.self.now.name c.args.self.now.held c.args.line.now (sym said), refl)
