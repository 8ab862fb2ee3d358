-- The session was just opened, so it is idle; answers are no more than the square of the most rows.
use Rattle.std.proofs.Common.{sym, ap}
use Rattle.std.proofs.lemmas.Result.{on_err_weaker}
use Rattle.djq_machine.specs.State.{State}
use Rattle.djq_machine.specs.Call.{counts}
use Rattle.djq_load.proofs.WholeLoads.{opens_few, points_few, begins, where_err, answers_load, breaks_feeding}
use Rattle.djq_load.proofs.WholeLoads.{breaks_opening, breaks_reading}
use Rattle.djq_load.proofs.loading.run_load.Goals as goal

pub feed_load-requires : goal.feed_load-requires
feed_load-requires g c =
    (begins _ _ (counts c.args.steps.now.listing c.args.steps.now.update c.args.steps.now.rows) c.open_session.result
    (sym c.if-is_err.ensures.value) c.open_session.ensures (ap (λ (st : State). st.sessions) c.requires) (ap (λ (st : State). st.stopped) c.requires)).idle

pub returns-clause-totals : goal.returns-clause-totals
returns-clause-totals g c =
    let b = begins _ _ (counts c.args.steps.now.listing c.args.steps.now.update c.args.steps.now.rows)
    c.open_session.result (sym c.if-is_err.ensures.value) c.open_session.ensures
    (ap (λ (st : State). st.sessions) c.requires) (ap (λ (st : State). st.stopped) c.requires) in
    answers_load c.args.n c.args.seed c.list_answers.result _ _ _ _ _ _ _ _ _
    (points_few c.args.n c.args.seed _ _ _ _ _ _ b.idle c.in_ok-feed_load.ensures.idle
    c.in_ok-feed_load.ensures.loads c.in_ok-open_cursor.ensures.loads (opens_few _ _ _ c.requires b.loads))
    c.in_ok-open_cursor.ensures.idle b.loads c.in_ok-feed_load.ensures.loads c.in_ok-open_cursor.ensures.loads
    c.list_answers.ensures.told c.list_answers.ensures.running

pub returns-clause-memory : goal.returns-clause-memory
returns-clause-memory g c =
    let b = begins _ _ (counts c.args.steps.now.listing c.args.steps.now.update c.args.steps.now.rows)
    c.open_session.result (sym c.if-is_err.ensures.value) c.open_session.ensures
    (ap (λ (st : State). st.sessions) c.requires) (ap (λ (st : State). st.stopped) c.requires) in
    on_err_weaker c.list_answers.result
    (λ broken. breaks_reading c.args.n c.args.seed _ _ _ _ _ _ _ _ _ b.loads c.in_ok-feed_load.ensures.loads
    c.in_ok-open_cursor.ensures.loads broken)
    c.list_answers.ensures.breaks

pub returns-in_err-feed_load-clause-memory : goal.returns-in_err-feed_load-clause-memory
returns-in_err-feed_load-clause-memory g c =
    let b = begins _ _ (counts c.args.steps.now.listing c.args.steps.now.update c.args.steps.now.rows)
    c.open_session.result (sym c.if-is_err.ensures.value) c.open_session.ensures
    (ap (λ (st : State). st.sessions) c.requires) (ap (λ (st : State). st.stopped) c.requires) in
    where_err c.from_residual.result
    (breaks_feeding c.args.n c.args.seed _ _ _ _ _ b.loads c.in_err-feed_load.ensures.breaks)

pub returns-in_err-open_cursor-clause-memory : goal.returns-in_err-open_cursor-clause-memory
returns-in_err-open_cursor-clause-memory g c =
    let b = begins _ _ (counts c.args.steps.now.listing c.args.steps.now.update c.args.steps.now.rows)
    c.open_session.result (sym c.if-is_err.ensures.value) c.open_session.ensures
    (ap (λ (st : State). st.sessions) c.requires) (ap (λ (st : State). st.stopped) c.requires) in
    where_err c.from_residual-in_err-open_cursor.result
    (breaks_opening c.args.n c.args.seed _ _ _ _ _ _ _ b.loads c.in_ok-feed_load.ensures.loads
    c.in_err-open_cursor.ensures.breaks)

pub list_answers-requires-clause-few : goal.list_answers-requires-clause-few
list_answers-requires-clause-few g c =
    let b = begins _ _ (counts c.args.steps.now.listing c.args.steps.now.update c.args.steps.now.rows)
    c.open_session.result (sym c.if-is_err.ensures.value) c.open_session.ensures
    (ap (λ (st : State). st.sessions) c.requires) (ap (λ (st : State). st.stopped) c.requires) in
    points_few c.args.n c.args.seed _ _ _ _ _ _ b.idle c.in_ok-feed_load.ensures.idle c.in_ok-feed_load.ensures.loads
    c.in_ok-open_cursor.ensures.loads (opens_few _ _ _ c.requires b.loads)
