-- The number first, then the lines, then the number of changes.
use Rattle.std.specs.Prelude.{ℕ, ◌≡◌, true, false}
use Rattle.std.proofs.Common.{sym, subst, ◌∙◌}
use Rattle.djq_transaction.specs.declared.net.Net.{Net}
use Rattle.djq_store_spec.specs.Done.{is_other}
use Rattle.djq_transaction.proofs.Answering.{number_refused, line_refused, seq_refused}
use Rattle.djq_transaction.proofs.done.judge_done.Goals as goal

pub returns-then-names_other-clause-answer : goal.returns-then-names_other-clause-answer
returns-then-names_other-clause-answer g c =
    number_refused c.args.catalog.now.relations c.args.catalog.now.texts c.args.seq c.args.transaction.now.lines
    c.args.given
    (subst (λ (n : ℕ). is_other c.args.given n ≡ true) c.len.ensures.value
    (sym c.names_other.ensures ∙ c.if-names_other.true))

pub returns-in-Err-clause-answer : goal.returns-in-Err-clause-answer
returns-in-Err-clause-answer g c =
    line_refused Net Net c.args.catalog.now.relations c.args.catalog.now.texts c.args.seq
    c.args.transaction.now.lines c.args.given c.in-Err.refused
    (subst (λ (n : ℕ). is_other c.args.given n ≡ false) c.len.ensures.value
    (sym c.names_other.ensures ∙ c.if-names_other.false)) c.in-Err.ensures.answer

pub returns-then-is_past_last-clause-answer : goal.returns-then-is_past_last-clause-answer
returns-then-is_past_last-clause-answer g c =
    seq_refused c.args.catalog.now.relations c.args.catalog.now.texts c.args.seq c.args.transaction.now.lines
    c.args.given true
    (subst (λ (n : ℕ). is_other c.args.given n ≡ false) c.len.ensures.value
    (sym c.names_other.ensures ∙ c.if-names_other.false)) c.in-Ok.ensures.answer
    (sym (c.is_past_last.ensures c.args.catalog.now.relations c.judge_all.new.catalog.texts _
    c.args.transaction.now.lines c.in-Ok.ensures.ok.1.rows) ∙ c.if-is_past_last.true)

pub returns-clause-answer : goal.returns-clause-answer
returns-clause-answer g c =
    seq_refused c.args.catalog.now.relations c.args.catalog.now.texts c.args.seq c.args.transaction.now.lines
    c.args.given false
    (subst (λ (n : ℕ). is_other c.args.given n ≡ false) c.len.ensures.value
    (sym c.names_other.ensures ∙ c.if-names_other.false)) c.in-Ok.ensures.answer
    (sym (c.is_past_last.ensures c.args.catalog.now.relations c.judge_all.new.catalog.texts _
    c.args.transaction.now.lines c.in-Ok.ensures.ok.1.rows) ∙ c.if-is_past_last.false)
