-- The logged lines stand in front of what is cut off.
use Rattle.std.proofs.Common.{◌∙◌, ap, ap₂, take, List, arith}
use Rattle.std.proofs.Common.{take-take}
use Rattle.djq_model.specs.Data.{Bytes}
use Rattle.djq_commands.specs.declared.commit.Entry.{Entry}
use Rattle.djq_commands.specs.Logging.{OpenCommit, lines_of_entries}
use Rattle.djq_commands.proofs.CommitLines.{same_lines}
use Rattle.djq_commands.proofs.commit.Commit.has_room.Goals as goal

pub returns-clause-lines : goal.returns-clause-lines
returns-clause-lines c =
    let bs = c.self.inside.bytes.items in
    let end = c.self.inside.end in
    let cut = c.reserve-self-inside.ensures.bytes.0 ∙ c.truncate.ensures.items in
    ap₂ (λ (xs : Bytes) (es : List Entry). lines_of_entries xs es) cut c.reserve-self-inside.ensures.entries.0
    ∙ same_lines (take end bs) bs end c.self.inside.entries.items (take-take end end bs (omega arith))
    c.self.invariant.placed
    ∙ ap (λ (v : OpenCommit). v.lines) c.self.view_is
