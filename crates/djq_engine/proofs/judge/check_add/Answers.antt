-- Behind the first test no row may come, so one that isn't there is refused, and one that is needs no room.
use Rattle.std.proofs.Common.{◌∙◌, sym, arith, inl, inr}
use Rattle.std.proofs.lemmas.Bool.{false≢true}
use Rattle.djq_engine.proofs.Conditions.{add_limited}
use Rattle.djq_engine.proofs.judge.check_add.Goals as goal

pub returns-then-not-is_there-clause-err : goal.returns-then-not-is_there-clause-err
returns-then-not-is_there-clause-err g c =
    add_limited c.args.catalog.now.relations c.args.name.now c.args.row.now c.args.seq
    c.in_ok-id.id.at c.in_ok-id.ensures.ok (sym c.is_there.ensures ∙ c.if-not-is_there.true)
    (elim c.else-row_count-lt-ROWS.either [
      | inl last ↦ inr last.1
      | inr full ↦ inl (omega (arith, full, c.row_count.ensures))
    ])

pub returns-clause-ok : goal.returns-clause-ok
returns-clause-ok g c = record {
  relation = c.in_ok-id.ensures.ok;
  room = λ absent. absurd (false≢true (sym absent ∙ sym c.is_there.ensures ∙ c.if-not-is_there.false));
  more = λ absent. absurd (false≢true (sym absent ∙ sym c.is_there.ensures ∙ c.if-not-is_there.false));
}
