-- What the half that comes leaves is what the half that goes begins with; both are said of the queries before.
use Rattle.std.proofs.Common.{arith, ◌∙◌}
use Rattle.std.specs.Prelude.{filter}
use Rattle.djq_propagate.proofs.Walks.{on_err}
use Rattle.djq_live_query.specs.Live.{IsKept}
use Rattle.djq_live_query.proofs.LeafRows.{leaves_small}
use Rattle.djq_reach.specs.Places.{is_reader}
use Rattle.djq_reach.specs.Grouping.{group_relations, reached}
use Rattle.djq_reach.proofs.Groups.{have_logs, unwatched_some}
use Rattle.djq_queries.specs.Changing.{touched}
use Rattle.djq_queries.proofs.Changes.{all_given, all_renewed, came_front, gone_back, in_back, in_front, mid_goes, mid_kept}
use Rattle.djq_queries.proofs.Changes.{renews_same}
use Rattle.djq_queries.proofs.ChangedLogs.{emptied_watched, tends_halves}
use Rattle.djq_queries.proofs.NetLogs.{told_distinct, tends_net}
use Rattle.djq_queries.proofs.ChangeCosts.{bounded_mid, costs_mid, deltas_mid, works_mid}
use Rattle.djq_queries.proofs.change.change_readers.Goals as goal

pub clear_logs-requires-clause-logged : goal.clear_logs-requires-clause-logged
clear_logs-requires-clause-logged g c =
    have_logs (reached c.args.readers.now c.args.gone.now) c.args.queries.now.items c.args.logs.now.items c.requires.can.before c.requires.logged
    (gone_back c.args.readers.now c.args.come.now c.args.gone.now c.args.queries.now.items c.args.queries.now.items (λ l. IsKept c.requires.can.before l) c.requires.can.kept)

pub delete_batch_from_readers-requires-clause-can : goal.delete_batch_from_readers-requires-clause-can
delete_batch_from_readers-requires-clause-can g c =
    let can = c.requires.can in
    let taken = c.in_ok-insert_batch_into_readers.ensures.taken can.before can.between can.leads.comes
    (came_front c.args.readers.now c.args.come.now c.args.gone.now c.args.queries.now.items c.args.queries.now.items (λ l. IsKept can.before l) can.kept) in
    record {
      before = can.between;
      after = can.after;
      leads = mid_goes c.args.readers.now c.args.come.now c.args.gone.now c.args.queries.now.items c.insert_batch_into_readers.new.queries.items can.before can.between can.after can.leads can.kept taken;
      kept = gone_back c.args.readers.now c.args.come.now c.args.gone.now c.insert_batch_into_readers.new.queries.items c.insert_batch_into_readers.new.queries.items (λ l. IsKept can.between l)
          (mid_kept c.args.readers.now c.args.come.now c.args.gone.now c.args.queries.now.items c.insert_batch_into_readers.new.queries.items can.before can.between can.after can.leads can.kept taken);
    }

pub returns-clause-changed : goal.returns-clause-changed
returns-clause-changed g c x e d leads kept =
    let taken = c.in_ok-insert_batch_into_readers.ensures.taken x e leads.comes
    (came_front c.args.readers.now c.args.come.now c.args.gone.now c.args.queries.now.items c.args.queries.now.items (λ l. IsKept x l) kept) in
    all_renewed c.args.readers.now c.args.come.now c.args.gone.now c.args.queries.now.items c.insert_batch_into_readers.new.queries.items x e d leads kept taken c.delete_batch_from_readers.new.queries.items
    (c.delete_batch_from_readers.ensures.gone e d
    (mid_goes c.args.readers.now c.args.come.now c.args.gone.now c.args.queries.now.items c.insert_batch_into_readers.new.queries.items x e d leads kept taken)
    (gone_back c.args.readers.now c.args.come.now c.args.gone.now c.insert_batch_into_readers.new.queries.items c.insert_batch_into_readers.new.queries.items (λ l. IsKept e l)
    (mid_kept c.args.readers.now c.args.come.now c.args.gone.now c.args.queries.now.items c.insert_batch_into_readers.new.queries.items x e d leads kept taken)))

-- what the logs tell of both halves, before they are settled
pub settle_logs-requires-clause-logged : goal.settle_logs-requires-clause-logged
settle_logs-requires-clause-logged g c i r =
    let low = have_logs (reached c.args.readers.now c.args.gone.now) c.args.queries.now.items c.args.logs.now.items c.requires.can.before c.requires.logged
    (gone_back c.args.readers.now c.args.come.now c.args.gone.now c.args.queries.now.items c.args.queries.now.items (λ l. IsKept c.requires.can.before l) c.requires.can.kept) i r in
    omega (arith, low, c.clear_logs.ensures.long, c.in_ok-insert_batch_into_readers.ensures.tells.long, c.delete_batch_from_readers.ensures.tells.long)

pub settle_logs-requires-clause-distinct : goal.settle_logs-requires-clause-distinct
settle_logs-requires-clause-distinct g c i passes =
    let can = c.requires.can in
    let taken = c.in_ok-insert_batch_into_readers.ensures.taken can.before can.between can.leads.comes
    (came_front c.args.readers.now c.args.come.now c.args.gone.now c.args.queries.now.items c.args.queries.now.items (λ l. IsKept can.before l) can.kept) in
    told_distinct c.args.readers.now c.args.come.now c.args.gone.now c.args.queries.now.items can.before can.between can.after can.leads can.kept c.args.watchers.now c.args.logs.now.items c.delete_batch_from_readers.new.logs.items
    (tends_halves c.args.readers.now c.args.come.now c.args.gone.now c.args.queries.now.items c.insert_batch_into_readers.new.queries.items can.before can.between can.after can.leads can.kept taken c.args.watchers.now c.args.logs.now.items c.clear_logs.new.logs.items c.insert_batch_into_readers.new.logs.items c.delete_batch_from_readers.new.logs.items
    c.clear_logs.ensures c.in_ok-insert_batch_into_readers.ensures.tells c.delete_batch_from_readers.ensures.tells)
    i passes

pub returns-clause-tells : goal.returns-clause-tells
returns-clause-tells g c x e d leads kept =
    let taken = c.in_ok-insert_batch_into_readers.ensures.taken x e leads.comes
    (came_front c.args.readers.now c.args.come.now c.args.gone.now c.args.queries.now.items c.args.queries.now.items (λ l. IsKept x l) kept) in
    tends_net c.args.readers.now c.args.come.now c.args.gone.now c.args.queries.now.items x e d leads kept c.args.watchers.now c.args.logs.now.items c.delete_batch_from_readers.new.logs.items
    (tends_halves c.args.readers.now c.args.come.now c.args.gone.now c.args.queries.now.items c.insert_batch_into_readers.new.queries.items x e d leads kept taken c.args.watchers.now c.args.logs.now.items c.clear_logs.new.logs.items c.insert_batch_into_readers.new.logs.items c.delete_batch_from_readers.new.logs.items
    c.clear_logs.ensures c.in_ok-insert_batch_into_readers.ensures.tells c.delete_batch_from_readers.ensures.tells)
    c.settle_logs.new.logs.items c.settle_logs.ensures

pub returns-clause-counted : goal.returns-clause-counted
returns-clause-counted g c x e d f h order leads kept came went among =
    let taken = c.in_ok-insert_batch_into_readers.ensures.taken x e leads.comes
    (came_front c.args.readers.now c.args.come.now c.args.gone.now c.args.queries.now.items c.args.queries.now.items (λ l. IsKept x l) kept) in
    let same = renews_same (reached c.args.readers.now c.args.come.now) c.args.queries.now.items c.insert_batch_into_readers.new.queries.items e taken in
    let first = c.insert_batch_into_readers.ensures.counted x e f order leads.comes
    (came_front c.args.readers.now c.args.come.now c.args.gone.now c.args.queries.now.items c.args.queries.now.items (λ l. IsKept x l) kept) came
    (λ i k. among i (in_front (reached c.args.readers.now c.args.come.now) (reached c.args.readers.now c.args.gone.now) i k)) in
    let second = c.delete_batch_from_readers.ensures.counted e d h order
    (mid_goes c.args.readers.now c.args.come.now c.args.gone.now c.args.queries.now.items c.insert_batch_into_readers.new.queries.items x e d leads kept taken)
    (gone_back c.args.readers.now c.args.come.now c.args.gone.now c.insert_batch_into_readers.new.queries.items c.insert_batch_into_readers.new.queries.items (λ l. IsKept e l)
    (mid_kept c.args.readers.now c.args.come.now c.args.gone.now c.args.queries.now.items c.insert_batch_into_readers.new.queries.items x e d leads kept taken))
    (deltas_mid (reached c.args.readers.now c.args.come.now) c.args.queries.now.items c.insert_batch_into_readers.new.queries.items same (reached c.args.readers.now c.args.gone.now) c.args.watchers.now e d h went)
    (λ i k. among i (in_back (reached c.args.readers.now c.args.come.now) (reached c.args.readers.now c.args.gone.now) i k)) in
    let even = costs_mid (reached c.args.readers.now c.args.come.now) c.args.queries.now.items c.insert_batch_into_readers.new.queries.items same c.args.watchers.now (group_relations c.args.gone.now) h
    (filter (is_reader (reached c.args.readers.now c.args.gone.now)) order) in
    omega (arith, first, second, even)

pub returns-clause-unlisted : goal.returns-clause-unlisted
returns-clause-unlisted g c none =
    c.delete_batch_from_readers.ensures.unlisted
    (unwatched_some c.args.watchers.now (touched c.args.readers.now c.args.come.now c.args.gone.now) (reached c.args.readers.now c.args.gone.now)
    (in_back (reached c.args.readers.now c.args.come.now) (reached c.args.readers.now c.args.gone.now)) none)
    ∙ c.insert_batch_into_readers.ensures.unlisted
    (unwatched_some c.args.watchers.now (touched c.args.readers.now c.args.come.now c.args.gone.now) (reached c.args.readers.now c.args.come.now)
    (in_front (reached c.args.readers.now c.args.come.now) (reached c.args.readers.now c.args.gone.now)) none)

pub returns-clause-updates : goal.returns-clause-updates
returns-clause-updates g c x e d n m flat leads kept few bounded =
    let taken = c.in_ok-insert_batch_into_readers.ensures.taken x e leads.comes
    (came_front c.args.readers.now c.args.come.now c.args.gone.now c.args.queries.now.items c.args.queries.now.items (λ l. IsKept x l) kept) in
    let same = renews_same (reached c.args.readers.now c.args.come.now) c.args.queries.now.items c.insert_batch_into_readers.new.queries.items e taken in
    let first = c.in_ok-insert_batch_into_readers.ensures.updates n few in
    let second = c.delete_batch_from_readers.ensures.updates m flat
    (bounded_mid (reached c.args.readers.now c.args.come.now) c.args.queries.now.items c.insert_batch_into_readers.new.queries.items same (reached c.args.readers.now c.args.gone.now) e m flat leaves_small
    (gone_back c.args.readers.now c.args.come.now c.args.gone.now c.insert_batch_into_readers.new.queries.items c.insert_batch_into_readers.new.queries.items (λ l. IsKept e l)
    (mid_kept c.args.readers.now c.args.come.now c.args.gone.now c.args.queries.now.items c.insert_batch_into_readers.new.queries.items x e d leads kept taken)) bounded) in
    let even = works_mid (reached c.args.readers.now c.args.come.now) c.args.queries.now.items c.insert_batch_into_readers.new.queries.items same c.args.readers.now m flat c.args.gone.now in
    omega (arith, first, second, even)

pub returns-in_err-insert_batch_into_readers-clause-given : goal.returns-in_err-insert_batch_into_readers-clause-given
returns-in_err-insert_batch_into_readers-clause-given g c = on_err c.from_residual.result _ (λ x e d leads kept.
    all_given c.args.readers.now c.args.come.now c.args.gone.now c.args.queries.now.items c.insert_batch_into_readers.new.queries.items x kept
    (c.in_err-insert_batch_into_readers.ensures.given x e leads.comes
    (came_front c.args.readers.now c.args.come.now c.args.gone.now c.args.queries.now.items c.args.queries.now.items
    (λ l. IsKept x l) kept)))

pub returns-in_err-insert_batch_into_readers-clause-emptied : goal.returns-in_err-insert_batch_into_readers-clause-emptied
returns-in_err-insert_batch_into_readers-clause-emptied g c = on_err c.from_residual.result _
    (emptied_watched (reached c.args.readers.now c.args.come.now) (reached c.args.readers.now c.args.gone.now)
    c.args.watchers.now c.args.logs.now.items c.clear_logs.new.logs.items
    c.insert_batch_into_readers.new.logs.items c.clear_logs.ensures
    c.in_err-insert_batch_into_readers.ensures.emptied)

pub returns-in_err-insert_batch_into_readers-clause-counted : goal.returns-in_err-insert_batch_into_readers-clause-counted
returns-in_err-insert_batch_into_readers-clause-counted g c x e d f h order leads kept came went among =
    let first = c.insert_batch_into_readers.ensures.counted x e f order leads.comes
    (came_front c.args.readers.now c.args.come.now c.args.gone.now c.args.queries.now.items c.args.queries.now.items (λ l. IsKept x l) kept) came
    (λ i k. among i (in_front (reached c.args.readers.now c.args.come.now) (reached c.args.readers.now c.args.gone.now) i k)) in
    omega (arith, first)

pub returns-in_err-insert_batch_into_readers-clause-refused : goal.returns-in_err-insert_batch_into_readers-clause-refused
returns-in_err-insert_batch_into_readers-clause-refused g c =
    on_err c.from_residual.result _ c.insert_batch_into_readers.ensures.counted

pub returns-in_err-insert_batch_into_readers-clause-unlisted : goal.returns-in_err-insert_batch_into_readers-clause-unlisted
returns-in_err-insert_batch_into_readers-clause-unlisted g c none =
    c.insert_batch_into_readers.ensures.unlisted
    (unwatched_some c.args.watchers.now (touched c.args.readers.now c.args.come.now c.args.gone.now) (reached c.args.readers.now c.args.come.now)
    (in_front (reached c.args.readers.now c.args.come.now) (reached c.args.readers.now c.args.gone.now)) none)
