-- By the rows that go, in whatever order the others get their copies.
use Rattle.djq_store_spec.specs.Lines.{relations_after}
use Rattle.djq_transaction.specs.Leading.{relations_left}
use Rattle.djq_transaction.proofs.LeadingLines.{rows_left, left_is_after, left_have}
use Rattle.djq_transaction.proofs.laws.lines_leave.Goals as goal

pub returns-clause-rows : goal.returns-clause-rows
returns-clause-rows c = rows_left

pub returns-clause-same : goal.returns-clause-same
returns-clause-same c = left_is_after

pub returns-clause-answers : goal.returns-clause-answers
returns-clause-answers c = λ d lines q t laws.
    let have = left_have d lines laws in
    let left = relations_left d.relations lines in
    let after = relations_after d.relations lines in (
      c.answers_follow_rows.ensures.stay left after q t have.0,
      c.answers_follow_rows.ensures.stay after left q t have.1,
    )
